-- `listing_text::spell` meets its contract: the loop keeps that what is left of the number stands before its last digits. Assumes nothing.
use Rattle.listing_text.proofs.Spelling.{Spelling}
use Rattle.listing_text.proofs.spell.Given as goal

abbrev pub invariant-loop-rest : goal.invariant-loop-rest
invariant-loop-rest l = Spelling l.n l.last l.out l.at l.rest

abbrev pub decreases-loop-rest : goal.decreases-loop-rest
decreases-loop-rest l = l.rest
