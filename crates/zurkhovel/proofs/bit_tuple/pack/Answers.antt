-- `zurkhovel::bit_tuple::pack` keeps its promise. Assumes nothing.
use Rattle.refusal.proofs.Giving.{reported_exit}
use Rattle.refusal.proofs.Laws.{is_refusal}
use mathlib.Core.Path.{refl, sym}
use native.Mathlib.Omega.{arith}
use Rattle.refusal.specs.Giving.{refused-first, written-room, written_length}
use Rattle.limits.specs.document.Limits.{size}
use Rattle.zurkhovel.specs.Rooting.{Rooted}
use Rattle.zurkhovel.proofs.Judged.{was_coded, was_refused}
use Rattle.zurkhovel.proofs.Rooted.{digits_length, digits_within, digits-coded, packed-given}
use Rattle.edition.specs.Laws.{at_most_nine}
use Rattle.zurkhovel.proofs.bit_tuple.pack.Goals as goal

pub slice_bounds-code-end : goal.slice_bounds-code-end
slice_bounds-code-end c = let coded : let a = c.args in Rooted a.edition size a.n a.edges.now a.root c.rooted.new.code c.in_ok-pairs.pairs = was_coded c.in_ok-pairs.ensures in
    omega (arith, digits_within (coded) (omega arith), coded.long)

pub slice_bounds-pack-end : goal.slice_bounds-pack-end
slice_bounds-pack-end c = let coded : let a = c.args in Rooted a.edition size a.n a.edges.now a.root c.rooted.new.code c.in_ok-pairs.pairs = was_coded c.in_ok-pairs.ensures in
    sym (digits_length (coded))

pub pack-m-requires : goal.pack-m-requires
pack-m-requires c = let coded : let a = c.args in Rooted a.edition size a.n a.edges.now a.root c.rooted.new.code c.in_ok-pairs.pairs = was_coded c.in_ok-pairs.ensures in
    let t = coded in
    (digits-coded t (at_most_nine _), omega (arith, digits_length t, digits_within t (omega arith)))

pub slice_bounds-packed-end : goal.slice_bounds-packed-end
slice_bounds-packed-end c = written-room c.pack-m.ensures

pub slice_bounds-laid-end : goal.slice_bounds-laid-end
slice_bounds-laid-end c = written_length c.pack-m.ensures

pub returns-in_err-pairs : goal.returns-in_err-pairs
returns-in_err-pairs c = reported_exit _ c.from_residual.result c.from_residual.ensures.1 (refused-first (was_refused c.in_err-pairs.ensures) refl)

pub returns-in_err-value : goal.returns-in_err-value
returns-in_err-value c =
    rw (is_refusal c.from_residual-in_err-value.result c.from_residual-in_err-value.ensures.1)
    (record { promised = packed-given (was_coded c.in_ok-pairs.ensures) c.pack-m.ensures c.in_err-value.ensures; reported = refl })

pub returns : goal.returns
returns c =
    let t = was_coded c.in_ok-pairs.ensures in
    record { promised = packed-given t c.pack-m.ensures c.in_ok-value.ensures; reported = t.count }
