-- `edge_list::outside` meets its contract: its two tests are the two ways to be outside. Assumes nothing.
use Rattle.edge_list.proofs.Tests.{tells_eq, tells_lt, by_first, by_second}
use Rattle.edge_list.proofs.outside.Goals as goal

pub returns-then-v-eq0 : goal.returns-then-v-eq0
returns-then-v-eq0 c = by_first c.if-v-eq0.true (tells_eq _ _)

pub returns-else-v-eq0 : goal.returns-else-v-eq0
returns-else-v-eq0 c = by_second c.if-v-eq0.false (tells_lt _ _)
