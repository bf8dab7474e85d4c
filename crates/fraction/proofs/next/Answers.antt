-- `fraction::next` meets its contract. Assumes nothing.
use Rattle.fraction.specs.Drawing.{next_low, next_high}
use Rattle.fraction.proofs.next.Goals as goal

pub returns-then-t : goal.returns-then-t
returns-then-t c = next_low c.args.x c.if-t.true

pub returns-else-t : goal.returns-else-t
returns-else-t c = next_high c.args.x c.if-t.false
