-- `digit_code::compare` meets its contract: the loop keeps that the digits passed agree. Assumes nothing.
use Rattle.digit_code.specs.Comparing.{Agree}
use Rattle.digit_code.proofs.compare.Given as goal

abbrev pub invariant-loop-i : goal.invariant-loop-i
invariant-loop-i l = Agree l.a l.b l.i
