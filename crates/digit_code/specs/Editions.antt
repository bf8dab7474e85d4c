-- Two limits on how many neighbours a vertex may have, R and the wider S: a digit code that is refused for S is refused for R alike, or with 10;
-- one that is right for S is right for R, or R refuses it with 10. What the code says, its digits and the edges that it decodes to, is the same
-- for both.
--
-- In order: a digit above its cap for S is above it for R; whether 10 applies, and where first; the tables of a digit code. Assumes nothing.
use Rattle.std.specs.Prelude.{◌≡◌, ◌⊎◌, List, [], ◌∷◌, ℕ, zero, suc, ◌≤◌, ◌<◌, length}
use Rattle.std.proofs.Common.{inl, inr, le_refl, arith}
use Rattle.std.proofs.Math.Decide.{dec_le}
use Rattle.refusal.specs.document.Table.{Row, Clear, FirstRefusal, OutcomeOf, Promise, row3}
use Rattle.refusal.specs.Laws.{clear_one}
use Rattle.refusal.proofs.Laws.{first-place}
use Rattle.refusal.specs.Stricter.{RefusedBy, Told}
use Rattle.refusal.proofs.Stricter.{relaxed_clear, relaxed, tightened_clear, tightened_refusal}
use Rattle.digit_code.specs.document.Code.{plain, digit, cap, row10, row11, row12, row13, code_rows}
use Rattle.digit_code.specs.Right.{RightCode, right_clear, clear_right}

pub cap-rises : {R S : ℕ} → R ≤ S → (p : ℕ) → cap R p ≤ cap S p
cap-rises h zero = h
cap-rises h (suc zero) = h
cap-rises h (suc (suc p)) = omega arith

-- no cap is above R
pub cap_most : (R p : ℕ) → cap R p ≤ R
cap_most R zero = omega arith
cap_most R (suc zero) = omega arith
cap_most R (suc (suc p)) = omega arith

-- 10 of the wider limit is 10 of the narrower
pub above-both : {R S : ℕ} (c : List ℕ) → R ≤ S → (p : ℕ) → (row10 S c).applies p → (row10 R c).applies p
above-both {R} {S} c h p a = (a.0, a.1, omega (arith, a.2, cap-rises h p))

-- ---- whether 10 applies

module _ (R : ℕ) (c : List ℕ) where
  -- the first n digits are within their caps, or the first of them that is not
  abbrev Looked : ℕ → Type 0
  Looked n = ((p : ℕ) → 1 ≤ p → p ≤ n → digit c p ≤ cap R p) ⊎ ((p : ℕ) × (p ≤ n) × (1 ≤ p) × (cap R p < digit c p) × ((q : ℕ) → 1 ≤ q → q < p → digit c q ≤ cap R q))

  looked : (n : ℕ) → Looked n
  looked zero = inl (λ p l h. absurd (omega arith))
  looked (suc n) = go (looked n) (dec_le (digit c (suc n)) (cap R (suc n)))
    where
      within : ((p : ℕ) → 1 ≤ p → p ≤ n → digit c p ≤ cap R p) → digit c (suc n) ≤ cap R (suc n) → (p : ℕ) → 1 ≤ p → Dec (p ≤ n) → p ≤ suc n → digit c p ≤ cap R p
      within f l p o (yes k) h = f p o k
      within f l p o (no k) h = let z : p ≡ suc n = omega arith in rw z l

      go : Looked n → Dec (digit c (suc n) ≤ cap R (suc n)) → Looked (suc n)
      go (inl f) (yes l) = inl (λ p o h. within f l p o (dec_le p n) h)
      go (inl f) (no l) = inr (suc n, le_refl (suc n), omega arith, omega arith, λ q o h. f q o (omega arith))
      go (inr (p, h, o, a, f)) d = inr (p, omega arith, o, a, f)

  pub ten_told : Told (row10 R c)
  ten_told = go (looked (length c))
    where
      go : Looked (length c) → Told (row10 R c)
      go (inl f) = inl (clear_one {r = row10 R c} (λ p a. (let z : ⊥ = omega (arith, f p a.0 a.1, a.2) in z)))
      go (inr (p, h, o, a, f)) = inr (p, first-place {r = row10 R c} (o, h, a) (λ q l b. (let z : ⊥ = omega (arith, f q b.0 l, b.2) in z)))

-- ---- a digit code

module _ (most : ℕ) {R S : ℕ} (c : List ℕ) (h : R ≤ S) where
  abbrev behind : List Row
  behind = row11 c ∷ row12 c ∷ row13 plain c ∷ []

  -- what R's table allows, S's allows, or it is refusal 10
  pub code_relaxed :
      {A T : Type 0} {right : A → T → Type 0} {old new : T} {o : OutcomeOf ℕ A}
      → Promise (code_rows most R c) right old new o → Promise (code_rows most S c) right old new o ⊎ RefusedBy 10 o
  code_relaxed p = relaxed (row3 most (length c) ∷ []) behind (row10 R c) (row10 S c) (above-both c h) p

  -- a code that is right for S is right for R, or refused for R with 10
  pub right_or_ten : RightCode most S c → RightCode most R c ⊎ ((p : ℕ) × FirstRefusal (code_rows most R c) 10 p)
  right_or_ten r = go (tightened_clear (row3 most (length c) ∷ []) behind (row10 R c) (row10 S c) (above-both c h) (ten_told R c) (right_clear most S c r))
    where
      go : Clear (code_rows most R c) ⊎ ((p : ℕ) × FirstRefusal (code_rows most R c) 10 p) → RightCode most R c ⊎ ((p : ℕ) × FirstRefusal (code_rows most R c) 10 p)
      go (inl k) = inl (clear_right most R c k)
      go (inr l) = inr l

  -- and one that is refused for S is refused for R alike, or with 10
  pub refused_or_ten :
      {k p : ℕ} → FirstRefusal (code_rows most S c) k p → FirstRefusal (code_rows most R c) k p ⊎ ((q : ℕ) × FirstRefusal (code_rows most R c) 10 q)
  refused_or_ten l = tightened_refusal (row3 most (length c) ∷ []) behind (row10 R c) (row10 S c) (above-both c h) (ten_told R c) l

  -- what is right for R is right for S
  pub right_wider : RightCode most R c → RightCode most S c
  right_wider r = clear_right most S c (relaxed_clear (row3 most (length c) ∷ []) behind (row10 R c) (row10 S c) (above-both c h) (right_clear most R c r))
