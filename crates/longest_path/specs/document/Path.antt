-- Document 01, "Codes": "The centre is the middle vertex, or the two middle vertices, of a longest path."
--
-- In order: paths, longest paths, their middles, the centre. Theorems are in `Theorems`. Assumes nothing.
use Rattle.std.specs.Prelude.{◌≡◌, ℕ, ◌-◌, ◌/◌, ◌≤◌, length, get_or}
use mathlib.Core.List.{List, [], ◌∷◌, Memᴰ}
use Rattle.laws.specs.document.Once.{Once}
use Rattle.skeleton.specs.document.Skeleton.{Arc, arcs}

-- each vertex is joined to the next
abbrev pub Joined : List Arc → List ℕ → Type 0
Joined A [] = Unit {0}
Joined A (v ∷ []) = Unit {0}
Joined A (u ∷ v ∷ p) = Memᴰ (u, v) A × Joined A (v ∷ p)

-- a path: vertices, each joined to the next, none twice
pub record IsPath (N : ℕ) (E p : List ℕ) : Type 0 where
  pub inside : (v : ℕ) → Memᴰ v p → (1 ≤ v) × (v ≤ N)
  pub joined : Joined (arcs E) p
  pub once : Once p

-- a path, and none is longer
pub record IsLongest (N : ℕ) (E p : List ℕ) : Type 0 where
  pub path : IsPath N E p
  pub longest : (q : List ℕ) → IsPath N E q → length q ≤ length p

-- the first of the two middle vertices of a path, which are one where it has an odd number of vertices
unfoldable pub middle₁ : List ℕ → ℕ
middle₁ p = get_or p ((length p - 1) / 2) 0

-- the second of them
unfoldable pub middle₂ : List ℕ → ℕ
middle₂ p = get_or p (length p / 2) 0

-- the centre is u and v, the middles of a longest path; u ≡ v where it is one vertex
pub record IsCentre (N : ℕ) (E : List ℕ) (u v : ℕ) : Type 0 where
  pub path : List ℕ
  pub longest : IsLongest N E path
  pub first : middle₁ path ≡ u
  pub second : middle₂ path ≡ v
