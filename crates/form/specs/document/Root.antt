-- Document 01, "Centred code" and "Numbering by code": which middle vertex is the root of the centred code's numbering. Where both have the centred code,
-- it is the one of the lower number. That it is one is `one-root`.
--
-- `at v` is the code at the root v; for the codes of document 01 it is `rooted N E v`. Assumes nothing.
use Rattle.std.specs.Prelude.{◌≡◌, List, ℕ, ◌≤◌}
use Rattle.laws.specs.document.Order.{◌≽◌}
use Rattle.longest_path.specs.document.Path.{IsCentre}

-- r and another, or r alone, are the centre
abbrev pub Middle : ℕ → List ℕ → ℕ → Type 0
Middle N E r = (v : ℕ) × IsCentre N E r v

-- r is a middle vertex, none has a larger code, and of those with its code r has the lowest number
pub record RootOf (N : ℕ) (E : List ℕ) (at : ℕ → List ℕ) (r : ℕ) : Type 0 where
  pub middle : Middle N E r
  pub largest : (v : ℕ) → Middle N E v → at r ≽ at v
  pub lowest : (v : ℕ) → Middle N E v → at v ≡ at r → r ≤ v
