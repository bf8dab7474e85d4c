-- `rooted_coder::arrange` meets its contract. Assumes nothing.
use Prim.Native.Nat.{◌+◌, ◌-◌}
use Rattle.rooted_coder.specs.Ordered.{marked, end_of}
use Rattle.rooted_coder.proofs.Arranging.{Arranging}
use Rattle.rooted_coder.proofs.arrange.Given as goal

abbrev pub invariant-loop-m : goal.invariant-loop-m
invariant-loop-m l = Arranging (marked l.marks) l.initial.out l.initial.lens l.out l.lens (l.at + 1) (end_of l.initial.lens l.at) l.m l.looked

abbrev pub decreases-loop-m : goal.decreases-loop-m
decreases-loop-m l = end_of l.initial.lens l.at - l.m
