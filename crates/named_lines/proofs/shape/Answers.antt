-- `named_lines::shape` meets its contract: a count and a space, digits and a space, letters and their counts. Assumes nothing.
use Rattle.named_lines.specs.Finding.{not_opened, digits_last, not_digits, not_tail, shape-found}
use Rattle.named_lines.proofs.shape.Goals as goal

pub returns-in_err-opening : goal.returns-in_err-opening
returns-in_err-opening c = rw c.from_residual.ensures (not_opened c.in_err-opening.ensures)

pub returns-then-e-b : goal.returns-then-e-b
returns-then-e-b c = digits_last c.in_ok-opening.ensures c.until.ensures c.if-e-b.true

pub returns-then-not-digits : goal.returns-then-not-digits
returns-then-not-digits c = not_digits c.in_ok-opening.ensures c.until.ensures c.if-e-b.false c.digits.ensures c.if-not-digits.true

pub returns-in_err-l : goal.returns-in_err-l
returns-in_err-l c = rw c.from_residual-in_err-l.ensures (not_tail c.in_ok-opening.ensures c.until.ensures c.if-e-b.false c.in_err-l.ensures)

pub returns : goal.returns
returns c = shape-found c.in_ok-opening.ensures c.until.ensures c.if-e-b.false c.digits.ensures c.if-not-digits.false c.in_ok-l.ensures
