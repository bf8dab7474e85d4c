-- `digit_code::check` meets its contract: its checks answer for the table's rows in order. Assumes nothing.
use Rattle.refusal.specs.Laws.{at_most}
use Rattle.refusal.proofs.Laws.{clear_of, behind, exits}
use Rattle.digit_code.specs.Ends.{ends_iff}
use Rattle.digit_code.specs.Counting.{clear_ends}
use Rattle.digit_code.proofs.check.Goals as goal

pub returns-in_err-sized : goal.returns-in_err-sized
returns-in_err-sized c = exits _ c.from_residual.ensures.1 c.in_err-sized.ensures

pub returns-in_err-capped : goal.returns-in_err-capped
returns-in_err-capped c = behind c.in_ok-sized.ensures (exits _ c.from_residual-in_err-capped.ensures.1 c.in_err-capped.ensures)

pub ended-requires : goal.ended-requires
ended-requires c = at_most (clear_of c.in_ok-sized.ensures)

pub returns-in_err-ended : goal.returns-in_err-ended
returns-in_err-ended c = behind c.in_ok-sized.ensures (behind c.in_ok-capped.ensures (exits _ c.from_residual-in_err-ended.ensures.1 c.in_err-ended.ensures))

pub ordered-requires-clause-ends : goal.ordered-requires-clause-ends
ordered-requires-clause-ends c = (ends_iff c.args.code.now).1 (clear_ends (clear_of c.in_ok-ended.ensures))

pub ordered-requires-clause-code_len_bound : goal.ordered-requires-clause-code_len_bound
ordered-requires-clause-code_len_bound c = at_most (clear_of c.in_ok-sized.ensures)

pub returns : goal.returns
returns c = behind c.in_ok-sized.ensures (behind c.in_ok-capped.ensures (behind c.in_ok-ended.ensures c.ordered.ensures))
