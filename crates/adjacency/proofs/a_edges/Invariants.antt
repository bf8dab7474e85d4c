-- `adjacency::a_edges` meets its contract. The loop's invariant: the columns before i are written, and s bits hold those from i on. Assumes nothing.
use Rattle.adjacency.proofs.Filling.{Taking}
use Rattle.adjacency.proofs.a_edges.Given as goal

abbrev pub invariant-loop-i : goal.invariant-loop-i
invariant-loop-i l = Taking l.n l.x l.initial.out l.i l.s l.k l.out
