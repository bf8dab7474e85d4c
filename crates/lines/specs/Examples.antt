-- The definitions, run on document 01's own figures. Assumes nothing.
use Rattle.std.specs.Prelude.{◌≡◌, refl, [], ◌∷◌, ℕ, ◌+◌}
use Rattle.std.proofs.Math.Decide.{dec_lt}
use Rattle.std.proofs.Common.{arith}
use Rattle.texts.specs.document.Numerals.{figures, decimal, IsCount, one-digit, two_digits}
use Rattle.lines.specs.document.Line.{body, line}

-- 8 32100100
written-line :
    line (3 ∷ 2 ∷ 1 ∷ 0 ∷ 0 ∷ 1 ∷ 0 ∷ 0 ∷ []) ≡ 56 ∷ 32 ∷ 51 ∷ 50 ∷ 49 ∷ 48 ∷ 48 ∷ 49 ∷ 48 ∷ 48 ∷ 10 ∷ []
unfolding line body decimal figures dec_lt
written-line = refl

-- 12 digits
written_count : decimal 12 ≡ 49 ∷ 50 ∷ []
unfolding decimal figures dec_lt
written_count = refl

-- "A count of `0` has the right form"
count_0 : IsCount (48 ∷ []) 0
unfolding figures
count_0 = one-digit (omega arith) refl

-- `08` and `100` have not
no_count_08 : (n : ℕ) → IsCount (48 ∷ 56 ∷ []) n → ⊥
unfolding figures
no_count_08 n (one-digit h e) = let z : ◌≡◌ {A = ℕ} 0 1 = cc in omega arith
no_count_08 n (two_digits d f p q r e s) = let z : 48 ≡ 48 + d = cc in omega arith

no_count_100 : (n : ℕ) → IsCount (49 ∷ 48 ∷ 48 ∷ []) n → ⊥
unfolding figures
no_count_100 n (one-digit h e) = let z : ◌≡◌ {A = ℕ} 0 1 = cc in omega arith
no_count_100 n (two_digits d f p q r e s) = let z : ◌≡◌ {A = ℕ} 0 1 = cc in omega arith
