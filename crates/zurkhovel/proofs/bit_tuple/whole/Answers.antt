-- `zurkhovel::bit_tuple::whole` keeps its promise. Assumes nothing.
use Rattle.refusal.proofs.Giving.{reported_exit}
use mathlib.Core.Path.{refl, sym}
use native.Mathlib.Omega.{arith}
use Rattle.refusal.specs.document.Table.{left}
use Rattle.bits.specs.document.Written.{Numbers}
use Rattle.limits.specs.document.Limits.{whole_size}
use Rattle.zurkhovel.specs.Rooting.{Rooted}
use Rattle.zurkhovel.proofs.Judged.{was_coded, was_refused}
use Rattle.zurkhovel.proofs.Rooted.{digits_length, digits_within, digits-coded, value-given}
use Rattle.edition.specs.Laws.{at_most_nine}
use Rattle.zurkhovel.proofs.bit_tuple.whole.Goals as goal

pub slice_bounds-code-end : goal.slice_bounds-code-end
slice_bounds-code-end c = let coded : let a = c.args in Rooted a.edition whole_size a.n a.edges.now a.root c.rooted.new.code c.in_ok-pairs.pairs = was_coded c.in_ok-pairs.ensures in
    omega (arith, digits_within (coded) (omega arith), coded.long)

pub slice_bounds-number_of-end : goal.slice_bounds-number_of-end
slice_bounds-number_of-end c = let coded : let a = c.args in Rooted a.edition whole_size a.n a.edges.now a.root c.rooted.new.code c.in_ok-pairs.pairs = was_coded c.in_ok-pairs.ensures in
    sym (digits_length (coded))

pub number_of-requires : goal.number_of-requires
number_of-requires c = let coded : let a = c.args in Rooted a.edition whole_size a.n a.edges.now a.root c.rooted.new.code c.in_ok-pairs.pairs = was_coded c.in_ok-pairs.ensures in
    digits-coded (coded) (at_most_nine _)

pub returns-in_err-pairs : goal.returns-in_err-pairs
returns-in_err-pairs c = reported_exit _ c.from_residual.result c.from_residual.ensures.1 (left (was_refused c.in_err-pairs.ensures) refl)

pub returns : goal.returns
returns c = let coded : let a = c.args in Rooted a.edition whole_size a.n a.edges.now a.root c.rooted.new.code c.in_ok-pairs.pairs = was_coded c.in_ok-pairs.ensures in
    value-given Numbers (coded) c.number_of.ensures
