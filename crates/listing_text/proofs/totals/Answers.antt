-- `listing_text::totals` meets its contract. Assumes nothing.
use Rattle.listing_text.specs.Window.{puts_then}
use Rattle.listing_text.proofs.Wording.{totals-line}
use Rattle.listing_text.proofs.totals.Goals as goal

pub returns : goal.returns
returns c =
    rw (← totals-line _ _)
    (puts_then (puts_then (puts_then c.put-a.ensures c.number-b.ensures) c.put-c.ensures) c.number.ensures)
