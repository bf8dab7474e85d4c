-- Document 01, "Refusal numbers": "the lowest number wins, then its first place". That this is the first row of a table whose numbers rise is
-- `lowest_number`. Assumes nothing.
use Rattle.std.specs.Prelude.{◌≡◌, ◌⊎◌, ◌↔◌, Bool, true, false, List, [], ◌∷◌, ℕ, ◌≤◌, ◌<◌, ltb}
use Rattle.refusal.specs.document.Table.{Row, Applies, FirstRefusal}

-- both tests hold
abbrev pub both : Bool → Bool → Bool
both true b = b
both false b = false

-- each row's number is above k and above those before it
abbrev pub above : ℕ → List Row → Bool
above k [] = true
above k (r ∷ rs) = both (ltb k r.number) (above r.number rs)

-- each row's number is above those before it
abbrev pub rises : List Row → Bool
rises [] = true
rises (r ∷ rs) = above r.number rs

-- k applies at p, and every other number that applies anywhere is higher; p is its first place
pub record Lowest (rs : List Row) (k p : ℕ) : Type 0 where
  pub here : Applies rs k p
  pub lowest : (j q : ℕ) → Applies rs j q → (k < j) ⊎ ((k ≡ j) × (p ≤ q))

-- the table refuses with the lowest number that applies, at its first place
abbrev pub LowestWins : List Row → Type 0
LowestWins rs = (k p : ℕ) → FirstRefusal rs k p ↔ Lowest rs k p
