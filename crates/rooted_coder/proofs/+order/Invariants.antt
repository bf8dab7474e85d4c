-- The proof of the cycle of calls {order}. The measure is the number of places behind the vertex. Assumes nothing.
use Prim.Native.Nat.{◌-◌}
use lib.ListN.{get_or}
use Rattle.limits.specs.document.Limits.{size}
use Rattle.rooted_coder.proofs.Turns.{Sofar}
use Rattle.rooted_coder.proofs.+order.Given as goal

abbrev pub invariant-loop-j : goal.invariant-loop-j
invariant-loop-j l = Sofar l.marks l.table.rows l.parent l.initial.out l.initial.lens l.out l.lens (get_or l.initial.out l.at 0) l.at l.j l.looked

abbrev pub decreases-order : goal.decreases-order
decreases-order l = size - l.at
