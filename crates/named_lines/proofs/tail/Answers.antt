-- `named_lines::tail` meets its contract: letters up to a space, and their counts. Assumes nothing.
use Rattle.named_lines.specs.Finding.{no_behind, no_letters, no_three, tail-found}
use Rattle.named_lines.proofs.tail.Goals as goal

pub returns-then-f-t : goal.returns-then-f-t
returns-then-f-t c = no_behind c.until-f.ensures c.if-f-t.true

pub returns-then-not-lettered : goal.returns-then-not-lettered
returns-then-not-lettered c = no_letters c.until-f.ensures c.if-f-t.false c.lettered.ensures c.if-not-lettered.true

pub returns-in_err-k : goal.returns-in_err-k
returns-in_err-k c = rw c.from_residual.ensures (no_three c.until-f.ensures c.if-f-t.false c.in_err-k.ensures)

pub returns : goal.returns
returns c = tail-found c.until-f.ensures c.if-f-t.false c.lettered.ensures c.if-not-lettered.false c.in_ok-k.ensures
