-- `listing_text::put` meets its contract. Assumes nothing.
use Rattle.listing_text.proofs.Putting.{passed_over, full, written}
use Rattle.listing_text.proofs.put.Goals as goal

pub returns-then-n-skip : goal.returns-then-n-skip
returns-then-n-skip c = passed_over _ _ _ _ c.if-n-skip.true

pub returns-then-out-done : goal.returns-then-out-done
returns-then-out-done c = full _ _ _ _ c.if-n-skip.false c.if-out-done.true

pub returns : goal.returns
returns c = written _ _ _ _ _ _ c.if-n-skip.false c.if-out-done.false c.min-end.ensures c.copy.ensures.bytes
