-- A format whose lines are parts set apart by single spaces is sound, where reading undoes writing and the parts are tied. What rests on `apart_parts` is in
-- `proofs.Parted`. Assumes nothing.
use Rattle.std.specs.Prelude.{◌≡◌, List, ◌∷◌, ℕ, ◌≤◌, length}
use Rattle.texts.specs.document.Text.{Format}
use Rattle.texts.specs.Damage.{Accept}
use Rattle.texts.specs.document.Parts.{spaced}
use Rattle.texts.specs.Spaced.{Marked, Tied}

-- how the line of a record is parts set apart by spaces, as many for each record
pub record Parted {A F : Type 0} (format : Format A F) : Type 0 where
  pub front : A → List ℕ
  pub more : A → List (List ℕ)
  pub is : (c : A) → format.body c ≡ spaced (front c) (more c)
  pub sized : (c d : A) → length (more c) ≡ length (more d)
  pub some : (c : A) → Accept format c → 1 ≤ length (front c)
  pub marked : (c : A) → Accept format c → Marked (front c ∷ more c)
  pub tied : (c d : A) → Accept format c → Accept format d → Tied (front c) (more c) (front d) (more d)
