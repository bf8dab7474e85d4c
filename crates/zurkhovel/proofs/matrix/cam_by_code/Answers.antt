-- `zurkhovel::matrix::cam_by_code` keeps its promise. Assumes nothing.
use Rattle.refusal.proofs.Giving.{reported_exit, reported_short}
use Rattle.refusal.proofs.Laws.{room_of}
use mathlib.Core.Path.{refl, sym}
use native.Mathlib.Omega.{arith}
use Rattle.refusal.specs.Laws.{at_least, at_most, others}
use Rattle.refusal.specs.Giving.{refused-first}
use Rattle.limits.specs.document.Limits.{size}
use Rattle.adjacency.specs.Plain.{numbered}
use Rattle.zurkhovel.specs.Rooting.{ListedByCode}
use Rattle.zurkhovel.proofs.Judged.{was_coded, was_refused}
use Rattle.zurkhovel.proofs.Numbered.{ends_length, ends_skeleton, ends_physical, cam-short, cam-given}
use Rattle.zurkhovel.proofs.matrix.cam_by_code.Goals as goal

pub overflow_sub-need : goal.overflow_sub-need
overflow_sub-need c = let known : ListedByCode c.args.edition size c.args.n c.args.edges.now c.by_code.new.ends c.in_ok-pairs.pairs = was_coded c.in_ok-pairs.ensures in
    at_least (others known.clear)

pub returns-in_err-fits : goal.returns-in_err-fits
returns-in_err-fits c = let known : ListedByCode c.args.edition size c.args.n c.args.edges.now c.by_code.new.ends c.in_ok-pairs.pairs = was_coded c.in_ok-pairs.ensures in
    reported_short c.from_residual-in_err-fits.result c.from_residual-in_err-fits.ensures.1 c.in_err-fits.ensures (λ l. cam-short (known) l refl)

pub slice_bounds-ends-end : goal.slice_bounds-ends-end
slice_bounds-ends-end c = let known : ListedByCode c.args.edition size c.args.n c.args.edges.now c.by_code.new.ends c.in_ok-pairs.pairs = was_coded c.in_ok-pairs.ensures in
    known.within

pub slice_bounds-write_cam-end : goal.slice_bounds-write_cam-end
slice_bounds-write_cam-end c = let known : ListedByCode c.args.edition size c.args.n c.args.edges.now c.by_code.new.ends c.in_ok-pairs.pairs = was_coded c.in_ok-pairs.ensures in
    sym (ends_length (known))

pub write_cam-requires : goal.write_cam-requires
write_cam-requires c = let known : ListedByCode c.args.edition size c.args.n c.args.edges.now c.by_code.new.ends c.in_ok-pairs.pairs = was_coded c.in_ok-pairs.ensures in
    let t = known in record { numbered = (numbered (ends_skeleton t), ends_physical t); n_le_size = (at_most (others t.clear), omega (arith, (room_of c.in_ok-fits.ensures))) }

pub returns-in_err-pairs : goal.returns-in_err-pairs
returns-in_err-pairs c = reported_exit _ c.from_residual.result c.from_residual.ensures.1 (refused-first (was_refused c.in_err-pairs.ensures) refl)

pub returns : goal.returns
returns c = let known : ListedByCode c.args.edition size c.args.n c.args.edges.now c.by_code.new.ends c.in_ok-pairs.pairs = was_coded c.in_ok-pairs.ensures in
    let t = known in
    record { promised = cam-given t (room_of c.in_ok-fits.ensures) c.write_cam.ensures; reported = t.count }
