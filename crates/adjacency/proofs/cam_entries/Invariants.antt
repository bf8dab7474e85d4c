-- `adjacency::cam_entries` meets its contract. The loop's invariant: 6 applies at no entry that is passed. Assumes nothing.
use Prim.Native.Nat.{ℕ, ◌+◌, ◌<◌}
use Rattle.adjacency.specs.document.Adjacency.{row6-cam}
use Rattle.adjacency.proofs.cam_entries.Given as goal

abbrev pub invariant-loop-i : goal.invariant-loop-i
invariant-loop-i l = (q : ℕ) → q < l.i + 1 → (row6-cam l.cam).applies q → ⊥
