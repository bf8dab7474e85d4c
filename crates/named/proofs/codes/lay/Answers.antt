-- `named::codes::lay` meets its contract. Assumes nothing.
use mathlib.Core.Path.{refl}
use native.Mathlib.Omega.{arith}
use Rattle.digit_code.specs.document.Code.{decode}
use Rattle.refusal.proofs.Laws.{room_of, short_of}
use Rattle.refusal.proofs.Both.{both-short, both-short-second}
use Rattle.texts.specs.Judging.{none}
use Rattle.named.proofs.Decoding.{copied, some_digit, edges-sized, both-laid}
use Rattle.named.proofs.codes.lay.Goals as goal

pub overflow_sub-need : goal.overflow_sub-need
overflow_sub-need c = some_digit c.args.code.now c.requires

pub returns-in_err-fits : goal.returns-in_err-fits
returns-in_err-fits c =
    let (e, l) = short_of c.from_residual.result c.from_residual.ensures.1 c.in_err-fits.ensures in
    rw e (both-short none (edges-sized c.args.code.now c.args.letters.now c.requires) (refl, refl) l refl)

pub returns-in_err-fits-2 : goal.returns-in_err-fits-2
returns-in_err-fits-2 c =
    let (e, l) = short_of c.from_residual-in_err-fits-2.result c.from_residual-in_err-fits-2.ensures.1 c.in_err-fits-2.ensures in
    rw e (both-short-second none (edges-sized c.args.code.now c.args.letters.now c.requires) (refl, refl) (room_of c.in_ok-fits.ensures) l refl)

pub copy-requires : goal.copy-requires
copy-requires c = room_of c.in_ok-fits-2.ensures

pub write_edges-requires : goal.write_edges-requires
write_edges-requires c = record { ends = c.requires.0; code_len_bound = c.requires.1; code_in_bounds = omega (arith, (edges-sized c.args.code.now c.args.letters.now c.requires (decode c.args.code.now) _ (refl, refl)).0, (room_of c.in_ok-fits.ensures)) }

pub returns : goal.returns
returns c = both-laid c.args.code.now c.args.letters.now c.requires (room_of c.in_ok-fits.ensures) (room_of c.in_ok-fits-2.ensures) c.write_edges.ensures
    (copied c.args.letters.now c.args.spelling.now c.copy.ensures.bytes)
