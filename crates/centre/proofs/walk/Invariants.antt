-- `centre::walk` meets its contract. The loop's invariant: e are found, and the neighbours of the first h. Assumes nothing.
use Prim.Native.Nat.{◌-◌}
use Rattle.centre.proofs.Walked.{Walks}
use Rattle.centre.proofs.walk.Given as goal

abbrev pub invariant-loop-e : goal.invariant-loop-e
invariant-loop-e l = Walks l.n l.s l.table.rows l.table.degs l.o l.up l.h l.e

abbrev pub decreases-loop-e : goal.decreases-loop-e
decreases-loop-e l = l.n - l.h
