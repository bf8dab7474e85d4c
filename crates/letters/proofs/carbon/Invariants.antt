-- `letters::carbon` meets its contract. The loop's invariant: 14 applies at no place that is passed. Assumes nothing.
use Prim.Native.Nat.{ℕ, ◌+◌, ◌<◌}
use Rattle.letters.specs.document.Letters.{row14_atom}
use Rattle.letters.proofs.carbon.Given as goal

abbrev pub invariant-loop-i : goal.invariant-loop-i
invariant-loop-i l = (q : ℕ) → q < l.i + 1 → (row14_atom l.letters).applies q → ⊥
