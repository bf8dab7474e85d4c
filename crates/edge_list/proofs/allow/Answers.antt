-- `edge_list::allow` meets its contract: the loop keeps what is written for the vertices before v, and carbon's number behind them. Assumes nothing.
use Prim.Native.Nat.{◌+◌}
use native.Mathlib.Omega.{arith}
use lib.ListN.{set}
use Rattle.edge_list.proofs.Allowing.{Allowing, allowing_none, allowing_more, allowing_all}
use Rattle.edge_list.proofs.allow.Goals as goal
use Rattle.edge_list.proofs.allow.Goals.{After-bonds_at}

-- what is written up to v
more : (c : After-bonds_at) → Allowing c.args.letters.now (set c.loop-v.room c.loop-v.v c.bonds_at.result) (c.loop-v.v + 1)
more c = allowing_more c.loop-v.invariant (omega arith) (omega (arith, c.requires.0)) c.bonds_at.ensures.0

pub loop-v-init : goal.loop-v-init
loop-v-init c = rw c.requires.1 (allowing_none _)

pub returns-2 : goal.returns-2
returns-2 c = allowing_all (more (goal.at.returns-2 c).After-bonds_at) (omega arith)
