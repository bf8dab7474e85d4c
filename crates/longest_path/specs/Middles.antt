-- The middles of a path in either order, as the proofs compare them. Assumes nothing.
use Rattle.std.specs.Prelude.{◌≡◌, ◌⊎◌, List, ℕ}
use Rattle.longest_path.specs.document.Path.{middle₁, middle₂}

-- the middles of p are u and v, in one order or the other
abbrev pub Middles : List ℕ → ℕ → ℕ → Type 0
Middles p u v = ((middle₁ p ≡ u) × (middle₂ p ≡ v)) ⊎ ((middle₁ p ≡ v) × (middle₂ p ≡ u))

-- q has the middles of p
abbrev pub SameMiddles : List ℕ → List ℕ → Type 0
SameMiddles p q = Middles q (middle₁ p) (middle₂ p)
