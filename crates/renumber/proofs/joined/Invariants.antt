-- `renumber::joined` meets its contract. The loop's invariant: no edge before p joins a and b. Assumes nothing.
use mathlib.Core.List.{Memᴰ}
use Rattle.skeleton.specs.document.Skeleton.{arcs}
use Rattle.edge_list.specs.document.Edges.{before}
use Rattle.renumber.proofs.joined.Given as goal

abbrev pub invariant-loop-p : goal.invariant-loop-p
invariant-loop-p l = (Memᴰ (l.a, l.b) (arcs (before l.edges l.p)) → ⊥)
