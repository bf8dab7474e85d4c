-- `adjacency::cam_sizes` meets its contract: 3 is tested before 5, so that N - 1 is a number. Assumes nothing.
use mathlib.Core.Path.{refl}
use mathlib.Core.List.{[], ◌∷◌}
use native.Mathlib.Omega.{arith}
use Rattle.refusal.specs.document.Table.{Clear, row3}
use Rattle.refusal.specs.Laws.{at_least, then_passed}
use Rattle.refusal.proofs.Laws.{clear_of, exits, then_refused}
use Rattle.limits.specs.document.Limits.{size}
use Rattle.adjacency.specs.document.Adjacency.{row5_cam}
use Rattle.adjacency.proofs.cam_sizes.Goals as goal

pub returns-in_err-sized : goal.returns-in_err-sized
returns-in_err-sized c = exits _ c.from_residual.ensures.1 c.in_err-sized.ensures

pub overflow_sub-n : goal.overflow_sub-n
overflow_sub-n c = let clear : Clear (row3 size c.args.n ∷ []) = clear_of c.in_ok-sized.ensures in
    at_least (clear)

pub returns-then-cam-n : goal.returns-then-cam-n
returns-then-cam-n c = let clear : Clear (row3 size c.args.n ∷ []) = clear_of c.in_ok-sized.ensures in
    let a = c.args in then_refused (clear) (row5_cam a.n a.cam.now) (refl, c.if-cam-n.true)

pub returns : goal.returns
returns c = let clear : Clear (row3 size c.args.n ∷ []) = clear_of c.in_ok-sized.ensures in
    let a = c.args in then_passed (clear) (row5_cam a.n a.cam.now) (λ p h. h.1 (omega arith))
