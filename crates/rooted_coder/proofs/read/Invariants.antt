-- `rooted_coder::read` meets its contract. Assumes nothing.
use lib.ListN.{take}
use Rattle.laws.specs.Laying.{Mapped}
use Rattle.rooted_coder.specs.Ordered.{mark_of}
use Rattle.rooted_coder.proofs.read.Given as goal

abbrev pub invariant-loop-i : goal.invariant-loop-i
invariant-loop-i l = Mapped (mark_of l.marks) (take l.n l.s) l.initial.out l.out l.i
