-- `adjacency::factorial` meets its contract. The loop's invariant: f is the factorial of i - 1. Assumes nothing.
use mathlib.Core.Path.{◌≡◌}
use Prim.Native.Nat.{◌+◌, ◌-◌, ◌≤◌}
use Rattle.adjacency.specs.document.Adjacency.{factorial}
use Rattle.adjacency.proofs.factorial.Given as goal

abbrev pub invariant-loop-i : goal.invariant-loop-i
invariant-loop-i l = (l.i ≤ l.k + 1) × (l.f ≡ factorial (l.i - 1))
