-- `adjacency::a_zero` meets its contract. The loop's invariant: x is what the columns before i make. Assumes nothing.
use Rattle.adjacency.proofs.Summing.{Rated}
use Rattle.adjacency.proofs.a_zero.Given as goal

abbrev pub invariant-loop-i : goal.invariant-loop-i
invariant-loop-i l = Rated l.n l.edges l.i l.x
