-- `adjacency::column` meets its contract. The loop's invariant: the rows below r are written. Assumes nothing.
use Prim.Native.Nat.{◌+◌}
use lib.ListN.{length-set}
use Rattle.adjacency.proofs.Filling.{Filling, filling_none, filling_zero, filling_one, filling_room, filling_all}
use native.Mathlib.Omega.{arith}
use Rattle.adjacency.proofs.column.Goals as goal
use Rattle.adjacency.proofs.column.Goals.{Joined-bit-eq1, then-bit-eq1, else-bit-eq1}

-- one row more
step : (c : Joined-bit-eq1) → Filling c.args.i c.args.b c.args.out.now (c.loop-r.r + 1) c.if-bit-eq1.k c.if-bit-eq1.out
step c =
    elim c.if-bit-eq1.branch [
      | then-bit-eq1 w ↦ rw (w.k-is, w.out-is) (filling_one c.loop-r.invariant (omega arith) c.requires.1 w.if-bit-eq1.true)
      | else-bit-eq1 w ↦ rw (w.k-is, w.out-is) (filling_zero c.loop-r.invariant (omega arith) w.if-bit-eq1.false)
    ]

pub loop-r-init : goal.loop-r-init
loop-r-init c = filling_none _ _ _

pub bounds-out-k : goal.bounds-out-k
bounds-out-k c = omega (arith, c.loop-r.invariant.long, filling_room c.loop-r.invariant (omega arith) c.requires.1 c.if-bit-eq1.true)

pub bounds-out-k-then-bit-eq1 : goal.bounds-out-k-then-bit-eq1
bounds-out-k-then-bit-eq1 c = simp length-set (omega (arith, c.loop-r.invariant.long, filling_room c.loop-r.invariant (omega arith) c.requires.1 c.if-bit-eq1.true))

pub loop-r-preserved : goal.loop-r-preserved
loop-r-preserved c = step (goal.at.loop-r-preserved c).Joined-bit-eq1

pub returns : goal.returns
returns c = filling_all c.loop-r.invariant (omega arith)

pub returns-after-bit-eq1 : goal.returns-after-bit-eq1
returns-after-bit-eq1 c = filling_all (step (goal.at.returns-after-bit-eq1 c).Joined-bit-eq1) (omega arith)
