-- `edge_list::stray` meets its contract: the first end is tested, then the other. Assumes nothing.
use Rattle.laws.specs.Tells.{was_held, was_denied}
use Rattle.edge_list.proofs.Tests.{by_first, by_second}
use Rattle.edge_list.proofs.stray.Goals as goal

pub returns-then-outside : goal.returns-then-outside
returns-then-outside c = let t = rw c.one.ensures.0 at c.outside.ensures in
    by_first (was_held t c.if-outside.true) t

pub returns-else-outside : goal.returns-else-outside
returns-else-outside c = let t = rw c.one.ensures.0 at c.outside.ensures in
    by_second (was_denied t c.if-outside.false) (rw c.other.ensures.0 at c.outside-else-outside.ensures)
