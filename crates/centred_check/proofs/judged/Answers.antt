-- `centred_check::judged` meets its contract: the test of the marks is the definition. Assumes nothing.
use mathlib.Core.Path.{subst}
use Rattle.digit_code.specs.Ends.{Ends}
use Rattle.centred_check.specs.Kinds.{kinds}
use Rattle.centred_check.specs.Answer.{when_so, when_not}
use Rattle.centred_check.proofs.judged.Goals as goal

pub middle-requires : goal.middle-requires
middle-requires c = record { ds_value = c.requires.ds_value; ends = c.requires.ends; branches = c.requires.branches }

pub returns-then-middle : goal.returns-then-middle
returns-then-middle c = when_so (kinds c.args.named) (subst (Ends 1) c.requires.ds_value c.requires.ends) c.requires.ordered c.middle.ensures c.if-middle.true

pub returns : goal.returns
returns c = when_not (kinds c.args.named) (subst (Ends 1) c.requires.ds_value c.requires.ends) c.requires.ordered c.middle.ensures c.if-middle.false
