-- `adjacency::zero_cam` meets its contract. The loop's invariant: the entries from i on are written, and v is what is left. Assumes nothing.
use Rattle.adjacency.proofs.Mixing.{unranked_none, unranked_more, unranked_all}
use native.Mathlib.Omega.{arith}
use Rattle.adjacency.proofs.zero_cam.Goals as goal

pub loop-i-init : goal.loop-i-init
loop-i-init c = unranked_none _ _ _ (omega arith)

pub loop-i-preserved : goal.loop-i-preserved
loop-i-preserved c = unranked_more c.loop-i.invariant (omega arith) (omega arith)

pub returns : goal.returns
returns c = unranked_all c.loop-i.invariant (omega arith)
