-- `digit_code::capped` meets its contract: the loop keeps that row 10 applies to no digit passed. Assumes nothing.
use Prim.Native.Nat.{ℕ, ◌+◌, ◌<◌}
use Rattle.digit_code.specs.document.Code.{row10}
use Rattle.digit_code.proofs.capped.Given as goal

abbrev pub invariant-loop-i : goal.invariant-loop-i
invariant-loop-i l = (q : ℕ) → q < l.i + 1 → (row10 l.limit l.code).applies q → ⊥
