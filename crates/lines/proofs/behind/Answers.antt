-- `lines::behind` meets its contract. Assumes nothing.
use Rattle.lines.proofs.Passing.{behind-last, behind-line}
use Rattle.lines.proofs.behind.Goals as goal

pub returns-then-end-text : goal.returns-then-end-text
returns-then-end-text c = behind-last c.requires c.feed-end.ensures c.if-end-text.true

pub returns : goal.returns
returns c = behind-line c.requires c.feed-end.ensures c.if-end-text.false
