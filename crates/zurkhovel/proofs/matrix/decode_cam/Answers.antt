-- `zurkhovel::matrix::decode_cam` keeps its promise. Assumes nothing.
use Rattle.refusal.proofs.Laws.{clear_of, refusal_of, is_refusal}
use mathlib.Core.Path.{refl}
use native.Mathlib.Omega.{arith}
use Rattle.refusal.specs.document.Table.{Clear}
use Rattle.refusal.specs.Laws.{at_least, at_most, others}
use Rattle.refusal.specs.Giving.{refused-first}
use Rattle.zurkhovel.specs.document.InEdition.{cam_table}
use Rattle.adjacency.specs.Made.{long}
use Rattle.refusal.proofs.Behind.{behind-same}
use Rattle.zurkhovel.proofs.matrix.decode_cam.Goals as goal

pub returns-in_err-cam : goal.returns-in_err-cam
returns-in_err-cam c = rw (is_refusal c.from_residual.result c.from_residual.ensures.1) (refused-first (refusal_of c.in_err-cam.ensures) refl)

pub lay_cam-requires : goal.lay_cam-requires
lay_cam-requires c = let clear : Clear (cam_table c.args.edition c.args.n c.args.cam.now) = clear_of c.in_ok-cam.ensures in
    omega (arith, at_most (others (clear)), at_least (others (clear)), long c.args.n c.args.cam.now (others (clear)))

pub returns : goal.returns
returns c = let clear : Clear (cam_table c.args.edition c.args.n c.args.cam.now) = clear_of c.in_ok-cam.ensures in
    behind-same (clear) c.lay_cam.ensures
