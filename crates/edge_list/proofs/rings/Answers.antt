-- `edge_list::rings` meets its contract: without a cycle there is no edge from a vertex to itself. Assumes nothing.
use Rattle.refusal.proofs.Laws.{clear_of, behind, exits}
use mathlib.Core.Path.{subst}
use mathlib.Core.List.{List, [], ◌∷◌}
use Prim.Native.Nat.{ℕ}
use Rattle.refusal.specs.document.Table.{Clear}
use Rattle.refusal.specs.Laws.{clear_one, clear_both, never}
use Rattle.refusal.specs.Checks.{passes}
use Rattle.skeleton.specs.document.Skeleton.{arcs, Walk, here}
use Rattle.edge_list.specs.document.Edges.{before, first_end, row7, row8}
use Rattle.edge_list.proofs.rings.Goals as goal

-- the ends of an edge from a vertex to itself are joined before it
no-loops : (E : List ℕ) → Clear (row8 E ∷ []) → Clear (row7 E ∷ [])
no-loops E c = clear_one (λ p a. never c p (a.0, subst (Walk (arcs (before E p)) (first_end E p)) a.1 here))

pub returns-in_err-loops : goal.returns-in_err-loops
returns-in_err-loops c = exits _ c.from_residual.ensures.1 c.in_err-loops.ensures

pub returns-in-Err : goal.returns-in-Err
returns-in-Err c = behind c.in_ok-loops.ensures c.in-Err.ensures

pub returns : goal.returns
returns c = let k = clear_of c.in_default.ensures in passes (clear_both (no-loops c.args.edges.now k) k)
