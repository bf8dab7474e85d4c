-- `adjacency::column` meets its contract. The loop's invariant: the rows below r are written. Assumes nothing.
use Rattle.adjacency.proofs.Filling.{Filling}
use Rattle.adjacency.proofs.column.Given as goal

abbrev pub invariant-loop-r : goal.invariant-loop-r
invariant-loop-r l = Filling l.i l.b l.initial.out l.r l.k l.out
