-- `rooted_coder::seek` meets its contract. Assumes nothing.
use Prim.Native.Nat.{◌-◌}
use Rattle.laws.specs.Part.{part}
use Rattle.rooted_coder.specs.Ordered.{marked}
use Rattle.rooted_coder.proofs.Spots.{Looking}
use Rattle.rooted_coder.proofs.seek.Given as goal

abbrev pub invariant-loop-x : goal.invariant-loop-x
invariant-loop-x l = Looking (marked l.marks) l.s l.lens l.f l.m (part l.m l.b l.s) l.x l.at l.looked

abbrev pub decreases-loop-x : goal.decreases-loop-x
decreases-loop-x l = l.m - l.x
