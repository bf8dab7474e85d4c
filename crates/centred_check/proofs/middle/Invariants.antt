-- `centred_check::middle` meets its contract: the loop keeps the two tallest of the branches passed. Assumes nothing.
use Rattle.centred_check.specs.Race.{Race}
use Rattle.centred_check.proofs.middle.Given as goal

abbrev pub invariant-loop-j : goal.invariant-loop-j
invariant-loop-j l = Race l.hs l.from l.j l.first l.next l.at
