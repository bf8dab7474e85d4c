-- `centred_check::check` meets its contract: a wrong code is refused by 3 to 13, a right one by 14 or not. Assumes nothing.
use mathlib.Core.Path.{sym}
use borrow.Author.Rules.{rules}
use Rattle.limits.specs.document.Limits.{size}
use Rattle.digit_code.specs.Ends.{digits-plain}
use Rattle.digit_code.specs.Right.{right_plain}
use Rattle.centred_check.specs.Answer.{plain-answer, when_wrong, when_right}
use Rattle.centred_check.proofs.check.Goals as goal

pub scan-requires : goal.scan-requires
scan-requires c = record { ds_value = sym (digits-plain c.args.code.now); le_limit = c.requires; hs_len = search rules; starts_len = search rules }

pub returns-in_default : goal.returns-in_default
returns-in_default c = when_wrong (λ r. c.in_default.ensures ((right_plain size c.args.limit c.args.code.now).1 r)) c.check.ensures

pub judged-requires : goal.judged-requires
judged-requires c =
    let r = (right_plain size c.args.limit c.args.code.now).0 c.in-Some.ensures.0 in
    record { ds_value = sym (digits-plain c.args.code.now); ends = r.ends; ordered = r.ordered; branches = c.in-Some.ensures.1 }

pub returns : goal.returns
returns c = when_right ((right_plain size c.args.limit c.args.code.now).0 c.in-Some.ensures.0) (plain-answer c.args.code.now c.judged.ensures)
