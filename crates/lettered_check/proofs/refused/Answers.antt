-- `lettered_check::refused` meets its contract: its checks answer for the table's rows in order. Assumes nothing.
use Rattle.refusal.proofs.Laws.{clear_of, behind, exits}
use Rattle.digit_code.specs.Ends.{ends_iff}
use Rattle.digit_code.specs.Counting.{clear_ends}
use Rattle.lettered_check.proofs.refused.Goals as goal

pub returns-in_err-capped : goal.returns-in_err-capped
returns-in_err-capped c = exits _ c.from_residual.ensures.1 c.in_err-capped.ensures

pub returns-in_err-bonded : goal.returns-in_err-bonded
returns-in_err-bonded c = behind c.in_ok-capped.ensures (exits _ c.from_residual-in_err-bonded.ensures.1 c.in_err-bonded.ensures)

pub returns-in_err-ended : goal.returns-in_err-ended
returns-in_err-ended c = behind c.in_ok-capped.ensures
    (behind c.in_ok-bonded.ensures
    (exits _ c.from_residual-in_err-ended.ensures.1 c.in_err-ended.ensures))

pub ordered_marks-requires : goal.ordered_marks-requires
ordered_marks-requires c = record { ds_value = c.requires.ds_value; ends = (ends_iff c.args.ds.now).1 (clear_ends (clear_of c.in_ok-ended.ensures)); ds_len_bound = c.requires.ds_len_bound }

pub returns : goal.returns
returns c = behind c.in_ok-capped.ensures
    (behind c.in_ok-bonded.ensures
    (behind c.in_ok-ended.ensures c.ordered_marks.ensures))
