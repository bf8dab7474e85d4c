-- `centred_check::later` meets its contract. Assumes nothing.
use mathlib.Core.Path.{sym, ap}
use Rattle.digit_code.specs.Compare.{further}
use Rattle.centred_check.proofs.later.Goals as goal

pub overflow_add-result : goal.overflow_add-result
overflow_add-result c = rw c.in-Less.is at c.requires

pub overflow_add-result-in-Equal : goal.overflow_add-result-in-Equal
overflow_add-result-in-Equal c = rw c.in-Equal.is at c.requires

pub overflow_add-result-in-Greater : goal.overflow_add-result-in-Greater
overflow_add-result-in-Greater c = rw c.in-Greater.is at c.requires

pub returns-in-Less : goal.returns-in-Less
returns-in-Less c = ap (further _) (sym c.in-Less.is)

pub returns-in-Equal : goal.returns-in-Equal
returns-in-Equal c = ap (further _) (sym c.in-Equal.is)

pub returns-in-Greater : goal.returns-in-Greater
returns-in-Greater c = ap (further _) (sym c.in-Greater.is)
