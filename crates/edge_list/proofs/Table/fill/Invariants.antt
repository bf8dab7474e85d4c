-- `edge_list::Table::fill` meets its contract. The loop's invariant: the table is that of the edges before p. Assumes nothing.
use Rattle.skeleton.specs.document.Skeleton.{arcs}
use Rattle.edge_list.specs.document.Edges.{before}
use Rattle.edge_list.proofs.Neighbours.{Holds}
use Rattle.edge_list.proofs.Table.fill.Given as goal

abbrev pub invariant-loop-p : goal.invariant-loop-p
invariant-loop-p l = Holds l.n (arcs (before l.edges l.p)) l.self.rows l.self.degs
