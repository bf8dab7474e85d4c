-- What the functions that look for row 13 keep: the ends of the parts that are known, and the first larger child of a mark. Assumes nothing.
use Rattle.std.specs.Prelude.{◌≡◌, List, ℕ, ◌≤◌, ◌<◌, length, get_or, Option, None, Some}
use Rattle.limits.specs.document.Limits.{size}
use Rattle.digit_code.specs.document.Code.{LargerOf}
use Rattle.digit_code.specs.Digits.{digits}
use Rattle.digit_code.specs.Ends.{Ends}
use Rattle.digit_code.specs.Parts.{Ending}

-- the ends of the parts that begin at mark i and behind it, places counted from 0
pub record Known (arity : ℕ → ℕ) (c ends : List ℕ) (i : ℕ) : Type 0 where
  pub whole : Ends 1 (digits arity c)
  pub few : length c ≤ size
  pub long : length ends ≡ size
  pub ending : (j : ℕ) → i ≤ j → j < length c → Ending arity c j (get_or ends j 0)

-- r is the first place of a larger child of mark v, if there is one
abbrev pub FirstOf : (arity : ℕ → ℕ) (c : List ℕ) (v : ℕ) → Option ℕ → Type 0
FirstOf arity c v None = (p : ℕ) → LargerOf arity c v p → ⊥
FirstOf arity c v (Some r) = LargerOf arity c v r × ((p : ℕ) → LargerOf arity c v p → r ≤ p)
