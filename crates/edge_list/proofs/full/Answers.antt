-- `edge_list::full` meets its contract: the first is tested, then the other. Assumes nothing.
use Rattle.edge_list.proofs.Tests.{tells_eq, by_first, by_second}
use Rattle.edge_list.proofs.full.Goals as goal

pub returns-then-x-eq0 : goal.returns-then-x-eq0
returns-then-x-eq0 c = by_first c.if-x-eq0.true (tells_eq _ _)

pub returns-else-x-eq0 : goal.returns-else-x-eq0
returns-else-x-eq0 c = by_second c.if-x-eq0.false (tells_eq _ _)
