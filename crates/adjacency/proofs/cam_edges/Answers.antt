-- `adjacency::cam_edges` meets its contract. The loop's invariant: the edges of the first i entries are written. Assumes nothing.
use mathlib.Core.Path.{sym}
use Rattle.adjacency.specs.document.Adjacency.{entry_edges}
use Rattle.adjacency.proofs.Writing.{edges_more, laid_none}
use native.Mathlib.Omega.{arith}
use Rattle.adjacency.proofs.cam_edges.Goals as goal

pub loop-i-init : goal.loop-i-init
unfolding entry_edges
loop-i-init c = sym (laid_none _)

pub loop-i-preserved : goal.loop-i-preserved
loop-i-preserved c = edges_more _ _ _ _ (omega arith) (omega arith) c.loop-i.invariant
