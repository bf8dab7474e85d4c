-- Trees with numbered vertices, for proofs alone: no definition that a reader must believe names them. First child and next
-- sibling, so that every function and every lemma is one recursion of two clauses. Assumes nothing.
use Rattle.std.specs.Prelude.{◌≡◌, ℕ, suc, ◌+◌, ◌≤◌}
use mathlib.Core.List.{List, [], ◌∷◌, ◌++◌, Memᴰ, Permᴰ}
use Rattle.skeleton.specs.document.Skeleton.{Arc, arcs}

-- a vertex, its children, and the trees beside it
pub data Forest : Type 0 where
  none : Forest
  tree : ℕ → Forest → Forest → Forest

-- the vertices, each before its children and those before the trees beside it
unfoldable pub vertices : Forest → List ℕ
vertices none = []
vertices (tree v d f) = v ∷ (vertices d ++ vertices f)

-- how many they are
unfoldable pub count : Forest → ℕ
count none = 0
count (tree v d f) = suc (count d + count f)

-- the arcs of a forest whose roots hang under p
unfoldable pub hung : ℕ → Forest → List Arc
hung p none = []
hung p (tree v d f) = (p, v) ∷ (v, p) ∷ (hung v d ++ hung p f)

-- no vertex twice
abbrev pub Distinct : Forest → Type 0
Distinct none = Unit {0}
Distinct (tree v d f) =
    (Memᴰ v (vertices d) → ⊥) × (Memᴰ v (vertices f) → ⊥) × ((w : ℕ) → Memᴰ w (vertices d) → Memᴰ w (vertices f) → ⊥) × Distinct d × Distinct f

-- the edge list E as a tree of N vertices with the root r, whose children's trees are `forest`
pub record Rooted (N : ℕ) (E : List ℕ) (r : ℕ) : Type 0 where
  pub forest : Forest
  pub same : Permᴰ (arcs E) (hung r forest)
  pub apart : Memᴰ r (vertices forest) → ⊥
  pub distinct : Distinct forest
  pub inside : (v : ℕ) → Memᴰ v (r ∷ vertices forest) → (1 ≤ v) × (v ≤ N)
  pub all : (v : ℕ) → 1 ≤ v → v ≤ N → Memᴰ v (r ∷ vertices forest)
  pub full : suc (count forest) ≡ N
