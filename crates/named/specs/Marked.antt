-- What the functions on the marks of an accepted edge list with letters promise each other. Assumes nothing.
use Rattle.std.specs.Prelude.{List, ℕ}
use Rattle.refusal.specs.document.Table.{Writes}

-- r pairs were looked at, as Count has it, and the first n numbers of the output are a right code
pub record Codes (Right : List ℕ → Type 0) (Count : ℕ → Type 0) (old : List ℕ) (n : ℕ) (new : List ℕ) (r : ℕ) : Type 0 where
  pub writes : Writes Right old n new
  pub counts : Count r
