-- `digit_code::ended` meets its contract: the loop keeps how many places are open. Assumes nothing.
use Prim.Native.Nat.{◌+◌, ◌*◌, ◌≤◌}
use Rattle.digit_code.specs.Counting.{Open}
use Rattle.digit_code.proofs.ended.Given as goal

abbrev pub invariant-loop-i : goal.invariant-loop-i
invariant-loop-i l = Open l.code l.open l.i × (l.open ≤ 1 + 255 * l.i)
