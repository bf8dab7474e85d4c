-- `edge_list::cycles` meets its contract. The loop's invariant: the heads tell rightly what the edges before p join, and 8 applies at no
-- place before p. Assumes nothing.
use Prim.Native.Nat.{ℕ, ◌<◌}
use Rattle.edge_list.specs.document.Edges.{row8}
use Rattle.edge_list.proofs.Heads.{Known}
use Rattle.edge_list.proofs.cycles.Given as goal

abbrev pub invariant-loop-p : goal.invariant-loop-p
invariant-loop-p l = Known l.edges l.p l.up × ((q : ℕ) → q < l.p → (row8 l.edges).applies q → ⊥)
