-- Rows 10 to 12 are enough for the theorems on lines: digits that they do not refuse are digits, and their sum is one less than their
-- number. Assumes nothing.
use Rattle.std.specs.Prelude.{◌≡◌, refl, List, ◌∷◌, ℕ, ◌+◌, ◌-◌, ◌≤◌, ◌<◌, length, get_or}
use Rattle.std.proofs.Math.Decide.{ℕ_discrete, dec_lt}
use Rattle.std.proofs.Common.{arith}
use Rattle.digit_code.specs.document.Code.{sum, EndsAt, cap, row10, row11, row12}
use Rattle.digit_code.specs.Editions.{cap_most}
use Rattle.digit_code.specs.Ends.{ends_iff, ends_sum}
use Rattle.refusal.specs.document.Table.{Row, Clear}
use Rattle.refusal.specs.Laws.{never, others}
use Rattle.texts.specs.document.Numerals.{Digit, Digits}
use Rattle.laws.specs.Each.{each_of}

-- a code that these rows do not refuse
pub record Code (c : List ℕ) : Type 0 where
  pub some : 1 ≤ length c
  pub digits : Digits c
  pub total : sum c + 1 ≡ length c

-- 11 and 12 alone fix the sum
pub summed : (c : List ℕ) {rows : List Row} → Clear (row11 c ∷ row12 c ∷ rows) → sum c + 1 ≡ length c
summed c k = decided (ℕ_discrete (sum c + 1) (length c))
  where
    ended : (e : ℕ) → (sum c + 1 ≡ length c → ⊥) → EndsAt c e → Dec (e < length c) → ⊥
    ended e n a (yes l) = let q : e + 1 - 1 ≡ e = omega arith in never k (e + 1) (omega arith, rw q a)
    ended e n a (no l) = let q : e ≡ length c = omega (arith, a.within) in n (ends_sum 1 c ((ends_iff c).1 (rw q at a)))

    decided : Dec (sum c + 1 ≡ length c) → sum c + 1 ≡ length c
    decided (yes e) = e
    decided (no n) = absurd (never (others k) (length c) (refl, λ e a. ended e n a (dec_lt e (length c))))

pub lawful : (R : ℕ) → R ≤ 9 → (c : List ℕ) {rows : List Row} → Clear (row10 R c ∷ row11 c ∷ row12 c ∷ rows) → Code c
lawful R h c k = record { some = omega (arith, sums); digits = each_of Digit c low; total = sums }
  where
    sums : sum c + 1 ≡ length c
    sums = summed c (others k)

    low : (i : ℕ) → i < length c → get_or c i 0 ≤ 9
    low i l =
        let n : cap R (i + 1) < get_or c (i + 1 - 1) 0 → ⊥ = λ m. never k (i + 1) (omega arith, omega arith, m) in
        let e : i + 1 - 1 ≡ i = omega arith in
        let m : cap R (i + 1) < get_or c i 0 → ⊥ = rw e at n in
        omega (arith, cap_most R (i + 1))
