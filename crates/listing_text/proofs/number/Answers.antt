-- `listing_text::number` meets its contract. Assumes nothing.
use Rattle.listing_text.proofs.Wording.{spelt_part}
use Rattle.listing_text.proofs.number.Goals as goal

pub returns : goal.returns
returns c = rw (spelt_part c.spell-start.ensures) at c.put.ensures
