-- `edge_list::sizes` meets its contract: 3 is tested before 5, so that N - 1 is a number. Assumes nothing.
use mathlib.Core.Path.{refl}
use native.Mathlib.Omega.{arith}
use Rattle.refusal.specs.Laws.{at_least, then_passed}
use Rattle.refusal.proofs.Laws.{clear_of, exits, then_refused}
use Rattle.edge_list.specs.document.Edges.{row5_edges}
use Rattle.edge_list.proofs.sizes.Goals as goal
use Rattle.edge_list.proofs.sizes.Goals.{then-edges-ne0-via-then-edges-ne0, then-edges-ne0-via-else-edges-ne0+then-edges-n}

pub returns-in_err-sized : goal.returns-in_err-sized
returns-in_err-sized c = exits _ c.from_residual.ensures.1 c.in_err-sized.ensures

pub overflow_sub-n : goal.overflow_sub-n
overflow_sub-n c = at_least (clear_of c.in_ok-sized.ensures)

pub returns-then-edges-ne0 : goal.returns-then-edges-ne0
returns-then-edges-ne0 c = let a = c.args in
    then_refused (clear_of c.in_ok-sized.ensures) (row5_edges a.n a.edges.now) (
      refl,
      λ e. elim c.then-edges-ne0.branch [
        | then-edges-ne0-via-then-edges-ne0 w ↦ omega arith
        | then-edges-ne0-via-else-edges-ne0+then-edges-n w ↦ omega arith
      ],
    )

pub returns : goal.returns
returns c = let a = c.args in
    then_passed (clear_of c.in_ok-sized.ensures) (row5_edges a.n a.edges.now) (λ p h. h.1 (omega arith))
