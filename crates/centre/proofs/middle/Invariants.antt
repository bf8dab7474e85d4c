-- `centre::middle` meets its contract. The loop's invariant: one has gone half as far as the other. Assumes nothing.
use mathlib.Core.List.{List, ◌∷◌}
use Prim.Native.Nat.{ℕ}
use Rattle.limits.specs.document.Limits.{size}
use Rattle.centre.specs.Walking.{Trail}
use Rattle.centre.proofs.Halves.{Half, steps}
use Rattle.centre.proofs.middle.Given as goal

abbrev pub invariant-loop-fast : goal.invariant-loop-fast
invariant-loop-fast l = (p : List ℕ) → Trail l.up l.v p → Half (l.v ∷ p) l.slow l.fast

abbrev pub decreases-loop-fast : goal.decreases-loop-fast
decreases-loop-fast l = steps size l.up l.fast
