-- `rooted_coder::compare` meets its contract: the loop keeps that the marks passed agree. Assumes nothing.
use Rattle.digit_code.specs.Comparing.{Agree}
use Rattle.rooted_coder.specs.Ordered.{marked}
use Rattle.rooted_coder.proofs.compare.Given as goal

abbrev pub invariant-loop-i : goal.invariant-loop-i
invariant-loop-i l = Agree (marked l.marks l.a) (marked l.marks l.b) l.i
