-- The larger of two codes, and the greatest degree. Assumes nothing.
use Rattle.std.specs.Prelude.{◌≡◌, Bool, true, false, List, ℕ, ◌≤◌, ◌<◌, get_or, take}
use Rattle.laws.specs.document.Order.{◌≽◌}
use Rattle.laws.specs.document.Laid.{laid_over}

-- the first n of best have stayed, or those of other, where these are larger, stand over best now; the answer says which
pub data Raised (n : ℕ) (best other new : List ℕ) : Bool → Type 0 where
  kept : take n best ≽ take n other → new ≡ best → Raised n best other new false
  raised : (take n best ≽ take n other → ⊥) → new ≡ laid_over (take n other) best → Raised n best other new true

-- r is the greatest of the first n
pub record MaximumDegree (d : List ℕ) (n r : ℕ) : Type 0 where
  pub above : (i : ℕ) → i < n → get_or d i 0 ≤ r
  pub one : 0 < n → (i : ℕ) × (i < n) × (get_or d i 0 ≡ r)
