-- `adjacency::bin` meets its contract. The loop's invariant: b is what the edges before p give. Assumes nothing.
use Rattle.adjacency.proofs.Summing.{Summed}
use Rattle.adjacency.proofs.bin.Given as goal

abbrev pub invariant-loop-p : goal.invariant-loop-p
invariant-loop-p l = Summed l.edges l.v l.p l.b
