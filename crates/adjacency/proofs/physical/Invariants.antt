-- `adjacency::physical` meets its contract. The loop's invariant: 14 applies at no vertex before v. Assumes nothing.
use Prim.Native.Nat.{ℕ, ◌<◌}
use Rattle.adjacency.specs.document.Adjacency.{row14_physical}
use Rattle.adjacency.proofs.physical.Given as goal

abbrev pub invariant-loop-v : goal.invariant-loop-v
invariant-loop-v l = (q : ℕ) → q < l.v → (row14_physical l.n l.edges).applies q → ⊥
