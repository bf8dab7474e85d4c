-- `edge_list::part` meets its contract. The loop's invariant: what is below v stands for itself. Assumes nothing.
use Rattle.edge_list.specs.Parts.{Parted}
use Rattle.edge_list.proofs.part.Given as goal

abbrev pub invariant-loop-v : goal.invariant-loop-v
invariant-loop-v l = Parted l.v l.up
