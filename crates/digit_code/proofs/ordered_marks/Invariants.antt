-- `digit_code::ordered_marks` meets its contract: the loop keeps the lowest place of a larger child of the marks passed. Assumes nothing.
use Rattle.digit_code.specs.Search.{Known}
use Rattle.digit_code.specs.Two.{arity_of}
use Rattle.digit_code.proofs.Lowest.{Best}
use Rattle.digit_code.proofs.ordered_marks.Given as goal

abbrev pub invariant-loop-i : goal.invariant-loop-i
invariant-loop-i l = Known (arity_of l.named) l.ms l.ends 0 × Best (arity_of l.named) l.ms l.i l.best
