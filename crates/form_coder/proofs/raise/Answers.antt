-- `form_coder::raise` meets its contract. Assumes nothing.
use mathlib.Core.Path.{◌≡◌, refl, sym}
use native.Mathlib.Omega.{arith}
use lib.ListN.{length, take}
use lib.Seq.{length-take-le}
use Rattle.laws.specs.Tells.{was_held, was_denied}
use Rattle.form_coder.specs.Raised.{kept, raised}
use Rattle.form_coder.proofs.Written.{copied}
use Rattle.form_coder.proofs.raise.Goals as goal

pub slice_bounds-falls-end-2 : goal.slice_bounds-falls-end-2
slice_bounds-falls-end-2 c = sym (length-take-le c.args.n c.args.best.now c.requires.0)

pub slice_bounds-falls-end-3 : goal.slice_bounds-falls-end-3
slice_bounds-falls-end-3 c = let counted : length (take c.args.n c.args.other.now) ≡ c.args.n = length-take-le c.args.n c.args.other.now c.requires.1 in
    sym (counted)

pub returns-then-falls : goal.returns-then-falls
returns-then-falls c = kept (was_held c.falls.ensures c.if-falls.true) refl

pub slice_bounds-copy-end : goal.slice_bounds-copy-end
slice_bounds-copy-end c = let counted : length (take c.args.n c.args.other.now) ≡ c.args.n = length-take-le c.args.n c.args.other.now c.requires.1 in
    sym (counted)

pub copy-requires : goal.copy-requires
copy-requires c = let counted : length (take c.args.n c.args.other.now) ≡ c.args.n = length-take-le c.args.n c.args.other.now c.requires.1 in
    omega (arith, c.requires, counted)

pub returns : goal.returns
returns c = raised (was_denied c.falls.ensures c.if-falls.false) (copied _ _ _ c.copy.ensures.bytes)
