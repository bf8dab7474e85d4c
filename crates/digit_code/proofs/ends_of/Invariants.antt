-- `digit_code::ends_of` meets its contract: from the last digit down, the ends of the parts behind are known. Assumes nothing.
use Rattle.digit_code.specs.document.Code.{plain}
use Rattle.digit_code.specs.Search.{Known}
use Rattle.digit_code.proofs.ends_of.Given as goal

abbrev pub invariant-loop-i : goal.invariant-loop-i
invariant-loop-i l = Known plain l.code l.ends l.i
