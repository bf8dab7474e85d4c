-- `lines::form` meets its contract: a count and a space, then digits. Assumes nothing.
use Rattle.lines.specs.Forming.{unopened, has_form, has_none}
use Rattle.lines.proofs.form.Goals as goal

pub returns-in_err-opening : goal.returns-in_err-opening
returns-in_err-opening c = rw c.from_residual.ensures (unopened c.in_err-opening.ensures)

pub returns-then-not-digits : goal.returns-then-not-digits
returns-then-not-digits c = has_none c.in_ok-opening.ensures c.digits.ensures c.if-not-digits.true

pub returns : goal.returns
returns c = has_form c.in_ok-opening.ensures c.digits.ensures c.if-not-digits.false
