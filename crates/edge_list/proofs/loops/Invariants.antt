-- `edge_list::loops` meets its contract. The loop's invariant: 7 applies at no place before p. Assumes nothing.
use Prim.Native.Nat.{ℕ, ◌<◌}
use Rattle.edge_list.specs.document.Edges.{row7}
use Rattle.edge_list.proofs.loops.Given as goal

abbrev pub invariant-loop-p : goal.invariant-loop-p
invariant-loop-p l = (q : ℕ) → q < l.p → (row7 l.edges).applies q → ⊥
