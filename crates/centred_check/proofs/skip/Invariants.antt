-- `centred_check::skip` meets its contract: the loop keeps how many places are open. Assumes nothing.
use Prim.Native.Nat.{◌-◌}
use lib.ListN.{length}
use Rattle.digit_code.specs.document.Code.{plain}
use Rattle.centred_check.specs.Skip.{Skipping}
use Rattle.centred_check.proofs.skip.Given as goal

abbrev pub invariant-loop-open : goal.invariant-loop-open
invariant-loop-open l = Skipping plain l.ds l.from l.many l.i l.open

abbrev pub decreases-loop-open : goal.decreases-loop-open
decreases-loop-open l = length l.ds - l.i
