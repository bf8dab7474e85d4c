-- `renumber::place` meets its contract. Assumes nothing.
use Rattle.renumber.specs.Parts.{Placed}
use Rattle.renumber.proofs.place.Given as goal

abbrev pub invariant-loop-i : goal.invariant-loop-i
invariant-loop-i l = Placed l.n l.first l.second l.initial.out l.out l.i
