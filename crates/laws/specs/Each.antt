-- What holds of each number of a list: of its parts, at an index and from the indices, and in a loop. Assumes nothing.
use Rattle.std.specs.Prelude.{List, [], ◌∷◌, ◌++◌, ℕ, zero, suc, ◌+◌, ◌≤◌, ◌<◌, length, get_or, take}
use Rattle.std.proofs.Common.{add-one, arith, take-suc, take_all}
use Rattle.laws.specs.document.Each.{Each}

module _ (P : ℕ → Type 0) where
  pub each_right : (s t : List ℕ) → Each P (s ++ t) → Each P t
  each_right [] t f = f
  each_right (a ∷ s) t f = each_right s t f.1

  pub each-join : (s t : List ℕ) → Each P s → Each P t → Each P (s ++ t)
  each-join [] t f g = g
  each-join (a ∷ s) t f g = (f.0, each-join s t f.1 g)

  pub each_at : (t : List ℕ) (i : ℕ) → Each P t → i < length t → P (get_or t i 0)
  each_at [] i f l = absurd (omega arith)
  each_at (a ∷ t) zero f l = f.0
  each_at (a ∷ t) (suc i) f l = each_at t i f.1 (omega arith)

  pub each_of : (t : List ℕ) → ((i : ℕ) → i < length t → P (get_or t i 0)) → Each P t
  each_of [] h = tt
  each_of (a ∷ t) h = (h 0 (omega arith), each_of t (λ i l. h (suc i) (omega arith)))

-- what follows of each
pub each_follows : {P Q : ℕ → Type 0} → ((a : ℕ) → P a → Q a) → (t : List ℕ) → Each P t → Each Q t
each_follows h [] f = tt
each_follows h (a ∷ t) f = (h a f.0, each_follows h t f.1)

-- what a loop that counts i up has found of the numbers passed
pub record Passed (P : ℕ → Type 0) (t : List ℕ) (i : ℕ) : Type 0 where
  pub within : i ≤ length t
  pub each : Each P (take i t)

module _ {P : ℕ → Type 0} {t : List ℕ} {i : ℕ} (h : Passed P t i) where
  pub passed-more : i < length t → P (get_or t i 0) → Passed P t (i + 1)
  passed-more l p = record {
    within = omega arith;
    each = rw (add-one, take-suc t i 0) (each-join P (take i t) (get_or t i 0 ∷ []) h.each (p, tt));
  }

  pub passed-all : length t ≤ i → Each P t
  passed-all l = let f = h.each in rw (take_all i t l) at f
