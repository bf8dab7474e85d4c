-- `adjacency::only` meets its contract. The loop's invariant: one is what the edges before p give. Assumes nothing.
use mathlib.Core.Path.{sym}
use Prim.Native.Nat.{◌+◌}
use native.Mathlib.Omega.{arith}
use Rattle.adjacency.proofs.Search.{Sofar, sofar_none, sofar_miss, sofar_hit, sofar_over, sofar_all}
use Rattle.adjacency.proofs.only.Goals as goal
use Rattle.adjacency.proofs.only.Goals.{Joined-lower_at, in-Some+else-is_some, in_default}

-- one edge more
step : (c : Joined-lower_at) → Sofar c.args.edges.now c.args.v (c.loop-p.p + 1) c.match-lower_at.one
step c =
    elim c.match-lower_at.branch [
      | in-Some+else-is_some w ↦ rw w.one-is (sofar_hit c.args.edges.now c.args.v c.loop-p.p (omega arith, omega arith) c.loop-p.one (sym w.if-is_some.ensures) c.loop-p.invariant w.in-Some.ensures)
      | in_default w ↦ rw w.one-is (sofar_miss c.args.edges.now c.args.v c.loop-p.p (omega arith, omega arith) c.loop-p.one c.loop-p.invariant w.in_default.ensures)
    ]

pub loop-p-init : goal.loop-p-init
loop-p-init c = sofar_none c.args.edges.now c.args.v

pub returns-then-is_some : goal.returns-then-is_some
returns-then-is_some c = sofar_over c.args.edges.now c.args.v c.loop-p.p (omega arith, omega arith) c.loop-p.one (sym c.if-is_some.ensures) c.loop-p.invariant c.in-Some.ensures

pub loop-p-preserved : goal.loop-p-preserved
loop-p-preserved c = step (goal.at.loop-p-preserved c).Joined-lower_at

pub returns : goal.returns
returns c = sofar_all c.args.edges.now c.args.v c.loop-p.p c.loop-p.one c.loop-p.invariant (omega arith)

pub returns-after-lower_at : goal.returns-after-lower_at
returns-after-lower_at c = sofar_all c.args.edges.now c.args.v (c.loop-p.p + 1) c.match-lower_at.one (step (goal.at.returns-after-lower_at c).Joined-lower_at) (omega arith)
