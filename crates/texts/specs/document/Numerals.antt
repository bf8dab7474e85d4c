-- Digits, counts and numbers as they are written in a line. Document 01, "Lines": "N as a count of one digit, or of two with the first not 0"; document 02, wish 7: "the counts of C, N and O, without
-- leading zeros". Assumes nothing.
use Rattle.std.specs.Prelude.{◌≡◌, List, [], ◌∷◌, map, ℕ, ◌+◌, ◌*◌, ◌/◌, ◌%◌, ◌≤◌}
use Rattle.std.proofs.Math.Logic.{ite}
use Rattle.std.proofs.Math.Decide.{dec_lt}
use Rattle.laws.specs.document.Each.{Each}

-- digits as they are written, bytes 48 to 57
unfoldable pub figures : List ℕ → List ℕ
figures ds = map (λ d. 48 + d) ds

-- the count n as it is written, in one digit or two
unfoldable pub decimal : ℕ → List ℕ
decimal n = ite (dec_lt n 10) (figures (n ∷ [])) (figures (n / 10 ∷ n % 10 ∷ []))

-- d is a digit
abbrev pub Digit : ℕ → Type 0
Digit d = d ≤ 9

-- each is a digit
abbrev pub Digits : List ℕ → Type 0
Digits ds = Each Digit ds

-- "a count of one digit, or of two with the first not 0": b is such a count, and says n
pub data IsCount (b : List ℕ) (n : ℕ) : Type 0 where
  one-digit : n ≤ 9 → b ≡ figures (n ∷ []) → IsCount b n
  two_digits : (d e : ℕ) → 1 ≤ d → d ≤ 9 → e ≤ 9 → b ≡ figures (d ∷ e ∷ []) → n ≡ 10 * d + e → IsCount b n

-- what digits say behind a number a
unfoldable pub says : ℕ → List ℕ → ℕ
says a [] = a
says a (d ∷ ds) = says (10 * a + d) ds

-- some digits, and the first of several is not 0
abbrev pub Leads : List ℕ → Type 0
Leads [] = ⊥
Leads (d ∷ []) = Unit {0}
Leads (d ∷ e ∷ ds) = 1 ≤ d

-- b is a number without leading zeros, and says n
pub record IsNumber (b : List ℕ) (n : ℕ) : Type 0 where
  pub digits : List ℕ
  pub leads : Leads digits
  pub small : Digits digits
  pub parts : b ≡ figures digits
  pub value : n ≡ says 0 digits
