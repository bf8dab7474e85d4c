-- `fraction::draw` meets its contract. The loop's invariant: so many bits of x are drawn into w, and t is what is left. Assumes nothing.
use Rattle.fraction.specs.Drawing.{Drawing}
use Rattle.fraction.proofs.draw.Given as goal

abbrev pub invariant-loop : goal.invariant-loop
invariant-loop l = Drawing l.x l.t l.counter l.w
