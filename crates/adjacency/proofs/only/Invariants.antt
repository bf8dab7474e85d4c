-- `adjacency::only` meets its contract. The loop's invariant: one is what the edges before p give. Assumes nothing.
use Rattle.adjacency.proofs.Search.{Sofar}
use Rattle.adjacency.proofs.only.Given as goal

abbrev pub invariant-loop-p : goal.invariant-loop-p
invariant-loop-p l = Sofar l.edges l.v l.p l.one
