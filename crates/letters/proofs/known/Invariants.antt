-- `letters::known` meets its contract: the loop keeps that each byte passed is a letter. Assumes nothing.
use Rattle.laws.specs.Each.{Passed}
use Rattle.skeleton.specs.document.Atom.{Letter}
use Rattle.letters.proofs.known.Given as goal

abbrev pub invariant-loop-b : goal.invariant-loop-b
invariant-loop-b l = Passed Letter l.letters l.b-index
