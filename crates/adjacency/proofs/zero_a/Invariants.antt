-- `adjacency::zero_a` meets its contract. The loop's invariant: x is what the entries up to i make. Assumes nothing.
use Rattle.adjacency.proofs.Mixing.{Ranked}
use Rattle.adjacency.proofs.zero_a.Given as goal

abbrev pub invariant-loop-i : goal.invariant-loop-i
invariant-loop-i l = Ranked l.cam l.i l.x
