-- `zurkhovel::matrix::cam` keeps its promise. Assumes nothing.
use Rattle.refusal.proofs.Laws.{clear_of, refusal_of, is_refusal, room_of, short_of}
use mathlib.Core.Path.{refl}
use native.Mathlib.Omega.{arith}
use Rattle.refusal.specs.document.Table.{Clear}
use Rattle.refusal.specs.Laws.{at_least, others}
use Rattle.refusal.specs.Giving.{refused-first}
use Rattle.limits.specs.document.Limits.{size}
use Rattle.zurkhovel.specs.document.InEdition.{edge_table, physical_table}
use Rattle.adjacency.specs.Plain.{numbered}
use Rattle.adjacency.specs.Coded.{cam_length}
use Rattle.zurkhovel.proofs.Made.{known-short, known-given}
use Rattle.zurkhovel.specs.RoundMatrix.{physical_exactly}
use Rattle.zurkhovel.proofs.matrix.cam.Goals as goal

pub returns-in_err-check : goal.returns-in_err-check
returns-in_err-check c = rw (is_refusal c.from_residual.result c.from_residual.ensures.1) (refused-first (refusal_of c.in_err-check.ensures) refl)

pub overflow_sub-need : goal.overflow_sub-need
overflow_sub-need c = let clear : Clear (physical_table (edge_table c.args.edition) size c.args.n c.args.edges.now) = clear_of c.in_ok-check.ensures in
    at_least (others (clear))

pub returns-in_err-fits : goal.returns-in_err-fits
returns-in_err-fits c =
    let clear : Clear (physical_table (edge_table c.args.edition) size c.args.n c.args.edges.now) = clear_of c.in_ok-check.ensures in
    let (e, l) = short_of c.from_residual-in_err-fits.result c.from_residual-in_err-fits.ensures.1 c.in_err-fits.ensures in
    rw e (known-short (clear) (cam_length c.args.n c.args.edges.now) l refl)

pub write_cam-requires : goal.write_cam-requires
write_cam-requires c = let clear : Clear (physical_table (edge_table c.args.edition) size c.args.n c.args.edges.now) = clear_of c.in_ok-check.ensures in
    let (i, s, p) = (physical_exactly _ _ _ _).0 (clear) in record { numbered = (numbered s, p); n_le_size = (s.few, omega (arith, (room_of c.in_ok-fits.ensures))) }

pub returns : goal.returns
returns c = let clear : Clear (physical_table (edge_table c.args.edition) size c.args.n c.args.edges.now) = clear_of c.in_ok-check.ensures in
    known-given (clear) (cam_length c.args.n c.args.edges.now) (room_of c.in_ok-fits.ensures) c.write_cam.ensures
