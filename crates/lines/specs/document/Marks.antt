-- "No line may ever hold a decimal mark: the text carries digits only": the bytes of a line, and those that are marks in it. Assumes nothing.
use Rattle.std.specs.Prelude.{List, [], ◌∷◌, ◌++◌, ℕ, ◌≤◌, ◌≡◌, ◌⊎◌}
use Rattle.laws.specs.document.Each.{Each}
use Rattle.texts.specs.document.Bytes.{Other}

-- b is a digit's byte
abbrev pub WrittenDigit : ℕ → Type 0
WrittenDigit b = (48 ≤ b) × (b ≤ 57)

-- each byte is a digit's
abbrev pub WrittenDigits : List ℕ → Type 0
WrittenDigits t = Each WrittenDigit t

-- a digit, the space or the line feed
abbrev pub Allowed : ℕ → Type 0
Allowed b = WrittenDigit b ⊎ ((b ≡ 32) ⊎ (b ≡ 10))

-- digits, one space, digits, and one line feed, the last byte
pub record DigitsOnly (t : List ℕ) : Type 0 where
  pub count : List ℕ
  pub digits : List ℕ
  pub parts : t ≡ count ++ (32 ∷ (digits ++ (10 ∷ [])))
  pub count-figures : WrittenDigits count
  pub digit-figures : WrittenDigits digits

-- a byte that is neither a digit nor the space, as a comma or a point
abbrev pub Mark : ℕ → Type 0
Mark m = (WrittenDigit m → ⊥) × Other 32 m
