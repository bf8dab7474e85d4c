-- `edge_list::head` meets its contract. The loop's invariant: x has the head of v. The measure is x, since each step goes down.
-- Assumes nothing.
use mathlib.Core.Path.{◌≡◌}
use Prim.Native.Nat.{◌<◌}
use Rattle.edge_list.specs.Parts.{head_of}
use Rattle.edge_list.proofs.head.Given as goal

abbrev pub invariant-loop-x : goal.invariant-loop-x
invariant-loop-x l = (l.x < 256) × (head_of l.up l.x ≡ head_of l.up l.v)

abbrev pub decreases-loop-x : goal.decreases-loop-x
decreases-loop-x l = l.x
