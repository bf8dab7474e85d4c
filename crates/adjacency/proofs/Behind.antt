-- A local array whose first numbers are lent and written, and the answer of an edge list's check behind rows that have nothing to say.
-- Assumes nothing.
use mathlib.Core.Path.{◌≡◌, sym, ◌∙◌}
use mathlib.Core.List.{List, ◌++◌}
use Prim.Native.Nat.{ℕ, ◌≤◌}
use native.Mathlib.Omega.{arith}
use lib.ListN.{length, take, drop, replicate, length-append, length-replicate}
use lib.Seq.{length-take-le, take_at}
use Rattle.laws.specs.document.Laid.{laid_over}
use Rattle.refusal.specs.document.Table.{Row, Clear}
use Rattle.refusal.specs.Checks.{Check, Answers, passes, fails}
use Rattle.refusal.specs.Laws.{clear_right}
use Rattle.refusal.proofs.Laws.{refusal_behind}
use Rattle.adjacency.proofs.Writing.{laid-all}

-- ---- the array

pub front_length : (w n : ℕ) → n ≤ w → n ≡ length (take n (replicate {A = ℕ} w 0))
front_length w n h = sym (length-take-le n (replicate {A = ℕ} w 0) (rw (length-replicate {A = ℕ} w 0) h))

pub array_length : (w n : ℕ) (l : List ℕ) → n ≤ w → length l ≡ n → n ≤ length (l ++ drop n (replicate {A = ℕ} w 0))
array_length w n l h e = rw length-append (omega arith)

pub front_is : (w n : ℕ) (l : List ℕ) → length l ≡ n → take n (l ++ drop n (replicate {A = ℕ} w 0)) ≡ l
front_is w n l e = take_at l (drop n (replicate {A = ℕ} w 0)) n e

-- what was lent is c now
pub front-laid : (w n : ℕ) (l c : List ℕ) → n ≤ w → length c ≡ n → l ≡ laid_over c (take n (replicate {A = ℕ} w 0)) → l ≡ c
front-laid w n l c h e f = f ∙ laid-all c (take n (replicate {A = ℕ} w 0)) (e ∙ front_length w n h)

-- ---- the answer

pub only-behind : (xs ys : List Row) {a : Check} → Clear xs → Answers (xs ++ ys) a → Answers ys a
only-behind xs ys c (passes k) = passes (clear_right xs ys k)
only-behind xs ys c (fails l) = fails (refusal_behind xs ys c l)
