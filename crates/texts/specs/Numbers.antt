-- Numbers of any length, without leading zeros. In order: such a number says one number; up to 99 it is a count. What rests on `count-decimal`, `number-count` or
-- `count-number` is in `proofs.Numbers`. Assumes nothing.
use Rattle.std.specs.Prelude.{◌≡◌, List, [], ◌∷◌, ℕ, ◌+◌, ◌*◌, ◌≤◌}
use Rattle.std.proofs.Common.{sym, ap, ◌∙◌, arith}
use Rattle.texts.specs.document.Numerals.{figures, Digits, IsCount, one-digit, two_digits, says, Leads, IsNumber}
use Rattle.texts.specs.Numerals.{same-figures, marks-figures}
use Rattle.texts.specs.Spaced.{Marks}

pub one_number : {b : List ℕ} {n m : ℕ} → IsNumber b n → IsNumber b m → n ≡ m
one_number h k = h.value ∙ ap (says 0) (same-figures h.digits k.digits (sym h.parts ∙ k.parts)) ∙ sym k.value

pub marks-number : {b : List ℕ} {n : ℕ} → IsNumber b n → Marks b
marks-number h = rw h.parts (marks-figures h.digits)

-- further digits say no less
pub says-least : (a : ℕ) (ds : List ℕ) → a ≤ says a ds
unfolding says
says-least a [] = omega arith
says-least a (d ∷ ds) = omega (arith, says-least (10 * a + d) ds)

pub number-count : {b : List ℕ} {n : ℕ} → IsNumber b n → n ≤ 99 → IsCount b n
unfolding says
number-count {b} {n} h l = go h.digits h.leads h.small h.parts h.value
  where
    go : (ds : List ℕ) → Leads ds → Digits ds → b ≡ figures ds → n ≡ says 0 ds → IsCount b n
    go [] i s p v = absurd i
    go (d ∷ []) i s p v = let e : n ≡ d = omega arith in one-digit (omega (arith, s.0)) (rw e p)
    go (d ∷ e ∷ []) i s p v = two_digits d e i s.0 s.1.0 p (omega arith)
    go (d ∷ e ∷ f ∷ ds) i s p v = absurd (omega (arith, i, says-least (10 * (10 * (10 * 0 + d) + e) + f) ds))

pub count-number : {b : List ℕ} {n : ℕ} → IsCount b n → IsNumber b n
unfolding says
count-number {n = n} (one-digit h e) = record { digits = n ∷ []; leads = tt; small = (h, tt); parts = e; value = omega arith }
count-number (two_digits d f p q r e s) = record { digits = d ∷ f ∷ []; leads = p; small = (q, (r, tt)); parts = e; value = omega arith }
