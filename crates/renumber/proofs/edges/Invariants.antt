-- `renumber::edges` meets its contract. The loop's invariant: 19 applies at no edge before p. Assumes nothing.
use Prim.Native.Nat.{ℕ, ◌<◌}
use Rattle.renumber.specs.document.Map.{row19}
use Rattle.renumber.proofs.edges.Given as goal

abbrev pub invariant-loop-p : goal.invariant-loop-p
invariant-loop-p l = ((q : ℕ) → q < l.p → (row19 l.edges1 l.edges2 l.map).applies q → ⊥)
