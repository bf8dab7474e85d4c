-- `named_lines::counts` meets its contract: two spaces, three numbers, and their comparison. Assumes nothing.
use Rattle.named_lines.specs.Finding.{no_first, no_second, not_first, not_second, not_third, matched}
use Rattle.named_lines.proofs.counts.Goals as goal

pub returns-then-a-t : goal.returns-then-a-t
returns-then-a-t c = no_first c.until-a.ensures c.if-a-t.true

pub returns-then-b-t : goal.returns-then-b-t
returns-then-b-t c = no_second c.until-a.ensures c.if-a-t.false c.until.ensures c.if-b-t.true

pub returns-in_err-c : goal.returns-in_err-c
returns-in_err-c c = rw c.from_residual.ensures (not_first c.until-a.ensures c.if-a-t.false c.until.ensures c.if-b-t.false c.in_err-c.ensures)

pub returns-in_err-n : goal.returns-in_err-n
returns-in_err-n c = rw c.from_residual-in_err-n.ensures (not_second c.until-a.ensures c.if-a-t.false c.until.ensures c.if-b-t.false c.in_err-n.ensures)

pub returns-in_err-o : goal.returns-in_err-o
returns-in_err-o c = rw c.from_residual-in_err-o.ensures (not_third c.until-a.ensures c.if-a-t.false c.until.ensures c.if-b-t.false c.in_err-o.ensures)

pub returns : goal.returns
returns c = matched c.until-a.ensures c.if-a-t.false c.until.ensures c.if-b-t.false c.in_ok-c.ensures c.in_ok-n.ensures c.in_ok-o.ensures c.matching.ensures
