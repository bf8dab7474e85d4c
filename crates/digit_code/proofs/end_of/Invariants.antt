-- `digit_code::end_of` meets its contract: the loop passes the children of the digit one by one. Assumes nothing.
use Rattle.digit_code.specs.document.Code.{plain}
use Rattle.digit_code.specs.Parts.{Passing}
use Rattle.digit_code.proofs.end_of.Given as goal

abbrev pub invariant-loop : goal.invariant-loop
invariant-loop l = Passing plain l.code l.i l.counter l.e
