-- `zurkhovel::matrix::lay_cam` meets its contract. Assumes nothing.
use Rattle.refusal.proofs.Laws.{room_of, short_of}
use mathlib.Core.Path.{refl}
use native.Mathlib.Omega.{arith}
use Rattle.adjacency.specs.Made.{made_length}
use Rattle.texts.specs.Judging.{none}
use Rattle.zurkhovel.proofs.Made.{known-short, known-given}
use Rattle.zurkhovel.proofs.matrix.lay_cam.Goals as goal

pub overflow_mul-need : goal.overflow_mul-need
overflow_mul-need c = omega arith

pub returns-in_err-fits : goal.returns-in_err-fits
returns-in_err-fits c =
    let (e, l) = short_of c.from_residual.result c.from_residual.ensures.1 c.in_err-fits.ensures in
    rw e (known-short none (made_length 1 _) l refl)

pub cam_edges-requires : goal.cam_edges-requires
cam_edges-requires c = (c.requires, (room_of c.in_ok-fits.ensures))

pub returns : goal.returns
returns c = known-given none (made_length 1 _) (room_of c.in_ok-fits.ensures) c.cam_edges.ensures
