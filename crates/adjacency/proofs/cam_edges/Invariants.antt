-- `adjacency::cam_edges` meets its contract. The loop's invariant: the edges of the first i entries are written. Assumes nothing.
use mathlib.Core.Path.{◌≡◌}
use lib.ListN.{take}
use Rattle.laws.specs.document.Laid.{laid_over}
use Rattle.adjacency.specs.document.Adjacency.{entry_edges}
use Rattle.adjacency.proofs.cam_edges.Given as goal

abbrev pub invariant-loop-i : goal.invariant-loop-i
invariant-loop-i l = l.out ≡ laid_over (entry_edges 1 (take l.i l.cam)) l.initial.out
