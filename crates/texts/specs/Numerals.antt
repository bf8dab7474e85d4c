-- Laws of digits and counts as they are written. Assumes nothing.
use Rattle.std.specs.Prelude.{◌≡◌, refl, ◌⊎◌, List, [], ◌∷◌, ℕ, suc, ◌+◌, ◌*◌, ◌/◌, ◌%◌, ◌≤◌, ◌<◌, length}
use Rattle.std.proofs.Common.{sym, ap, ◌∙◌, inl, inr, arith}
use Rattle.std.proofs.Math.Logic.{ite, if_pos, if_neg}
use Rattle.std.proofs.Math.Decide.{dec_lt}
use Rattle.digit_code.specs.document.Code.{sum}
use Rattle.texts.specs.document.Bytes.{Free}
use Rattle.texts.specs.document.Numerals.{figures, decimal, Digits, IsCount, one-digit, two_digits}
use Rattle.texts.specs.Spaced.{Marks}

pub length_figures : (ds : List ℕ) → length (figures ds) ≡ length ds
unfolding figures
length_figures [] = refl
length_figures (d ∷ ds) = ap suc (length_figures ds)

pub sum-figures : (ds : List ℕ) → sum (figures ds) ≡ 48 * length ds + sum ds
unfolding figures sum
sum-figures [] = refl
sum-figures (d ∷ ds) = omega (arith, sum-figures ds)

pub same-figures : (ds es : List ℕ) → figures ds ≡ figures es → ds ≡ es
unfolding figures
same-figures [] [] e = refl
same-figures [] (b ∷ es) e = let z : ◌≡◌ {A = ℕ} 0 1 = cc in absurd (omega arith)
same-figures (d ∷ ds) [] e = let z : ◌≡◌ {A = ℕ} 0 1 = cc in absurd (omega arith)
same-figures (d ∷ ds) (b ∷ es) e =
    let r : ds ≡ es = same-figures ds es (cc) in
    let h : 48 + d ≡ 48 + b = cc in
    let k : d ≡ b = omega arith in
    cc

-- a byte that no digit is written as does not stand in written digits
pub free_figures : (k : ℕ) (ds : List ℕ) → (k < 48) ⊎ (57 < k) → Digits ds → Free k (figures ds)
unfolding figures
free_figures k [] o h = tt
free_figures k (d ∷ ds) o h = (other o, free_figures k ds o h.1)
  where
    other : (k < 48) ⊎ (57 < k) → 48 + d ≡ k → ⊥
    other (inl l) e = omega arith
    other (inr l) e = omega (arith, h.0)

-- a count below 10 is one digit, any other two
pub decimal-short : (n : ℕ) → n < 10 → decimal n ≡ (48 + n) ∷ []
unfolding decimal figures
decimal-short n h = if_pos (dec_lt n 10) h _ _

pub decimal_long : (n : ℕ) → 10 ≤ n → decimal n ≡ (48 + n / 10) ∷ (48 + n % 10) ∷ []
unfolding decimal figures
decimal_long n h = if_neg (dec_lt n 10) (λ l. omega arith) _ _

pub length_short : (n : ℕ) → n < 10 → length (decimal n) ≡ 1
length_short n h = ap length (decimal-short n h)

pub length_long : (n : ℕ) → 10 ≤ n → length (decimal n) ≡ 2
length_long n h = ap length (decimal_long n h)

pub decimal-counts : (n : ℕ) → n ≤ 99 → IsCount (decimal n) n
unfolding decimal
decimal-counts n h = go (dec_lt n 10)
  where
    go : (d : Dec (n < 10)) → IsCount (ite d (figures (n ∷ [])) (figures (n / 10 ∷ n % 10 ∷ []))) n
    go (yes l) = one-digit (omega arith) refl
    go (no l) = two_digits (n / 10) (n % 10) (omega arith) (omega arith) (omega arith) refl (omega arith)

pub count-decimal : {b : List ℕ} {n : ℕ} → IsCount b n → (b ≡ decimal n) × (n ≤ 99)
unfolding decimal
count-decimal {n} (one-digit l e) = (e ∙ sym (if_pos (dec_lt n 10) (omega arith) _ _), omega arith)
count-decimal {n} (two_digits d f p q r e s) =
    let u : d ≡ n / 10 = omega arith in
    let v : f ≡ n % 10 = omega arith in
    (rw (← u, ← v) (e ∙ sym (if_neg (dec_lt n 10) (λ l. omega arith) _ _)), omega arith)

pub count-short : {b : List ℕ} {n : ℕ} → IsCount b n → length b ≤ 2
unfolding figures
count-short (one-digit l e) = omega (arith, ap length e)
count-short (two_digits d f p q r e s) = omega (arith, ap length e)

pub count_free : (k : ℕ) {b : List ℕ} {n : ℕ} → k < 48 → IsCount b n → Free k b
count_free k {n} l (one-digit h e) = rw e (free_figures k (n ∷ []) (inl l) (h, tt))
count_free k l (two_digits d f p q r e s) = rw e (free_figures k (d ∷ f ∷ []) (inl l) (q, (r, tt)))

pub one-count : {b : List ℕ} {n m : ℕ} → IsCount b n → IsCount b m → n ≡ m
one-count {n} {m} (one-digit h e) (one-digit l f) = let g : n ∷ [] ≡ m ∷ [] = same-figures _ _ (cc) in cc
one-count {n} (one-digit h e) (two_digits d f p q r g s) =
    let x : n ∷ [] ≡ d ∷ f ∷ [] = same-figures _ _ (cc) in
    let z : ◌≡◌ {A = ℕ} 0 1 = cc in
    absurd (omega arith)
one-count {m} (two_digits d f p q r g s) (one-digit h e) =
    let x : m ∷ [] ≡ d ∷ f ∷ [] = same-figures _ _ (cc) in
    let z : ◌≡◌ {A = ℕ} 0 1 = cc in
    absurd (omega arith)
one-count (two_digits d f p q r g s) (two_digits d' f' p' q' r' g' s') =
    let x : d ∷ f ∷ [] ≡ d' ∷ f' ∷ [] = same-figures _ _ (cc) in
    let y : d ≡ d' = cc in
    let z : f ≡ f' = cc in
    omega arith

-- written digits stand above the space
pub marks-figures : (ds : List ℕ) → Marks (figures ds)
unfolding figures
marks-figures [] = tt
marks-figures (d ∷ ds) = (omega arith, marks-figures ds)

pub marks-count : {b : List ℕ} {n : ℕ} → IsCount b n → Marks b
marks-count {n = n} (one-digit h e) = rw e (marks-figures (n ∷ []))
marks-count (two_digits d f p q r e s) = rw e (marks-figures (d ∷ f ∷ []))

pub count_some : {b : List ℕ} {n : ℕ} → IsCount b n → 1 ≤ length b
unfolding figures
count_some (one-digit h e) = omega (arith, ap length e)
count_some (two_digits d f p q r e s) = omega (arith, ap length e)
