-- `listing_text::answer` meets its contract. Assumes nothing.
use Rattle.listing_text.specs.Window.{puts_then}
use Rattle.listing_text.proofs.Wording.{record_line, refusal_line}
use Rattle.listing_text.proofs.answer.Goals as goal

pub returns-in-Ok : goal.returns-in-Ok
returns-in-Ok c = rw c.in-Ok.is (rw (← record_line _ _) (puts_then c.number-v.ensures c.put.ensures))

pub returns-in-Err : goal.returns-in-Err
returns-in-Err c =
    rw c.in-Err.is (rw (← refusal_line _ _ _) (puts_then (puts_then c.number-v.ensures c.number-u.ensures) c.number.ensures))
