-- `adjacency::bin` meets its contract. The loop's invariant: b is what the edges before p give. Assumes nothing.
use Prim.Native.Nat.{◌+◌, ◌-◌, ◌≤◌, ◌<◌}
use Rattle.limits.specs.document.Limits.{a_size}
use Rattle.adjacency.proofs.Summing.{Summed, summed_none, summed_miss, summed_hit, summed_all, shift_one, power_small}
use native.Mathlib.Omega.{arith}
use Rattle.adjacency.proofs.bin.Goals as goal
use Rattle.adjacency.proofs.bin.Goals.{Joined-lower_at, in-Some, in_default}

-- one edge more
step : (c : Joined-lower_at) → Summed c.args.edges.now c.args.v (c.loop-p.p + 1) c.match-lower_at.b
step c =
    elim c.match-lower_at.branch [
      | in-Some w ↦
          let d = w.in-Some.ensures in
          let k : w.in-Some.u - 1 < 64 = omega (arith, d.2, c.requires) in
          rw (w.b-is, shift_one k) (summed_hit c.loop-p.invariant (omega arith, omega arith) d c.requires.1)
      | in_default w ↦ rw w.b-is (summed_miss c.loop-p.invariant (omega arith, omega arith) w.in_default.ensures)
    ]

pub loop-p-init : goal.loop-p-init
loop-p-init c = summed_none _ _

pub overflow_add-b : goal.overflow_add-b
overflow_add-b c = let d = c.in-Some.ensures in
    let k : c.in-Some.u - 1 < 64 = omega (arith, d.2, c.requires) in
    let u : c.in-Some.u ≤ a_size = omega (arith, d.2, c.requires) in
    omega (arith, c.loop-p.invariant.small, shift_one k, power_small u)

pub loop-p-preserved : goal.loop-p-preserved
loop-p-preserved c = step (goal.at.loop-p-preserved c).Joined-lower_at

pub returns : goal.returns
returns c = summed_all c.loop-p.invariant (omega arith)

pub returns-after-lower_at : goal.returns-after-lower_at
returns-after-lower_at c = summed_all (step (goal.at.returns-after-lower_at c).Joined-lower_at) (omega arith)
