-- `edge_list::allow` meets its contract: the loop keeps what is written for the vertices before v, and carbon's number behind them. Assumes nothing.
use Rattle.edge_list.proofs.Allowing.{Allowing}
use Rattle.edge_list.proofs.allow.Given as goal

abbrev pub invariant-loop-v : goal.invariant-loop-v
invariant-loop-v l = Allowing l.letters l.room l.v
