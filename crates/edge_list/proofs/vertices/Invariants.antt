-- `edge_list::vertices` meets its contract. The loop's invariant: 6 applies at no place before p. Assumes nothing.
use Prim.Native.Nat.{ℕ, ◌<◌}
use Rattle.edge_list.specs.document.Edges.{row6}
use Rattle.edge_list.proofs.vertices.Given as goal

abbrev pub invariant-loop-p : goal.invariant-loop-p
invariant-loop-p l = (q : ℕ) → q < l.p → (row6 l.n l.edges l.root).applies q → ⊥
