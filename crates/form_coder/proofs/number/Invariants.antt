-- `form_coder::number` meets its contract. Assumes nothing.
use Rattle.form_coder.proofs.Places.{Counted}
use Rattle.form_coder.proofs.number.Given as goal

abbrev pub invariant-loop-i : goal.invariant-loop-i
invariant-loop-i l = Counted l.order l.n l.numbers l.i
