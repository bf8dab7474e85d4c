-- `lines::passed` meets its contract: the loop keeps that no byte passed is k. Assumes nothing.
use Prim.Native.Nat.{◌-◌}
use lib.ListN.{length}
use Rattle.texts.specs.document.Bytes.{Other}
use Rattle.laws.specs.Each.{Passed}
use Rattle.lines.proofs.passed.Given as goal

abbrev pub invariant-loop-i : goal.invariant-loop-i
invariant-loop-i l = Passed (Other l.k) l.t l.i

abbrev pub decreases-loop-i : goal.decreases-loop-i
decreases-loop-i l = length l.t - l.i
