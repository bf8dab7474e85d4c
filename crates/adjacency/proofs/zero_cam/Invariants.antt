-- `adjacency::zero_cam` meets its contract. The loop's invariant: the entries from i on are written, and v is what is left. Assumes nothing.
use Rattle.adjacency.proofs.Mixing.{Unranked}
use Rattle.adjacency.proofs.zero_cam.Given as goal

abbrev pub invariant-loop-i : goal.invariant-loop-i
invariant-loop-i l = Unranked l.n l.x l.initial.out l.i l.out l.v
