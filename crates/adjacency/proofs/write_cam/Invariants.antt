-- `adjacency::write_cam` meets its contract. The loop's invariant: the entries before i are written. Assumes nothing.
use mathlib.Core.Path.{◌≡◌}
use mathlib.Core.List.{map}
use Prim.Native.Nat.{◌-◌, ◌≤◌}
use Rattle.laws.specs.document.Laid.{laid_over}
use Rattle.adjacency.specs.document.Adjacency.{from, entry}
use Rattle.adjacency.proofs.write_cam.Given as goal

abbrev pub invariant-loop-i : goal.invariant-loop-i
invariant-loop-i l = (l.i - 1 ≤ l.n - 1) × (l.out ≡ laid_over (map (entry l.edges) (from 1 (l.i - 1))) l.initial.out)
