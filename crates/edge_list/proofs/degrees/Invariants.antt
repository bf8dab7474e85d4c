-- `edge_list::degrees` meets its contract. The loop's invariant: `room` has what the edges before p leave of it, and the row applies at no place before p, for any limits
-- that the room was. Assumes nothing.
use Prim.Native.Nat.{ℕ, ◌<◌}
use Rattle.edge_list.specs.document.Edges.{crowded_row}
use Rattle.edge_list.specs.Limited.{Limited}
use Rattle.edge_list.proofs.Room.{Leaves}
use Rattle.edge_list.proofs.degrees.Given as goal

abbrev pub invariant-loop-p : goal.invariant-loop-p
invariant-loop-p l = Leaves l.edges l.initial.room l.p l.room × ((limit : ℕ → ℕ) → Limited limit l.initial.room → (q : ℕ) → q < l.p → (crowded_row l.number limit l.edges).applies q → ⊥)
