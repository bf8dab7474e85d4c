-- `lines::seek` meets its contract: the loop keeps that no byte passed is k. Assumes nothing.
use Rattle.texts.specs.document.Bytes.{Other}
use Rattle.laws.specs.Each.{Passed}
use Rattle.lines.proofs.seek.Given as goal

abbrev pub invariant-loop-i : goal.invariant-loop-i
invariant-loop-i l = Passed (Other l.k) l.t l.i
