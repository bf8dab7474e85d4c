-- Document 01, "Refusal numbers": "success writes the result from the start of the output and touches nothing behind it". Laws are in
-- `Laying`. Assumes nothing.
use Rattle.std.specs.Prelude.{◌≡◌, List, ◌++◌, ℕ, length, drop}

-- old with c written from its start
unfoldable pub laid_over : List ℕ → List ℕ → List ℕ
laid_over c old = c ++ drop (length c) old

-- new is old with c written from its start, and r is the length of c
pub record Laid (c old new : List ℕ) (r : ℕ) : Type 0 where
  pub count : r ≡ length c
  pub lies : new ≡ laid_over c old
