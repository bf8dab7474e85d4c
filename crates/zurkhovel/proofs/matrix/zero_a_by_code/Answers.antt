-- `zurkhovel::matrix::zero_a_by_code` keeps its promise. Assumes nothing.
use Rattle.refusal.proofs.Giving.{reported_exit}
use mathlib.Core.Path.{refl, sym}
use Rattle.refusal.specs.document.Table.{left}
use Rattle.limits.specs.document.Limits.{zero_size}
use Rattle.zurkhovel.specs.Rooting.{ListedByCode}
use Rattle.zurkhovel.proofs.Judged.{was_coded, was_refused}
use Rattle.zurkhovel.proofs.Numbered.{ends_length, ends_skeleton, ends_physical, zero_a-value}
use Rattle.zurkhovel.proofs.matrix.zero_a_by_code.Goals as goal

pub slice_bounds-ends-end : goal.slice_bounds-ends-end
slice_bounds-ends-end c = let known : ListedByCode c.args.edition zero_size c.args.n c.args.edges.now c.by_code.new.ends c.in_ok-pairs.pairs = was_coded c.in_ok-pairs.ensures in
    known.within

pub slice_bounds-zero_of-end : goal.slice_bounds-zero_of-end
slice_bounds-zero_of-end c = let known : ListedByCode c.args.edition zero_size c.args.n c.args.edges.now c.by_code.new.ends c.in_ok-pairs.pairs = was_coded c.in_ok-pairs.ensures in
    sym (ends_length (known))

pub zero_of-requires : goal.zero_of-requires
zero_of-requires c = let known : ListedByCode c.args.edition zero_size c.args.n c.args.edges.now c.by_code.new.ends c.in_ok-pairs.pairs = was_coded c.in_ok-pairs.ensures in
    let t = known in (ends_skeleton t, ends_physical t)

pub returns-in_err-pairs : goal.returns-in_err-pairs
returns-in_err-pairs c = reported_exit _ c.from_residual.result c.from_residual.ensures.1 (left (was_refused c.in_err-pairs.ensures) refl)

pub returns : goal.returns
returns c = let known : ListedByCode c.args.edition zero_size c.args.n c.args.edges.now c.by_code.new.ends c.in_ok-pairs.pairs = was_coded c.in_ok-pairs.ensures in
    zero_a-value (known) c.zero_of.ensures
