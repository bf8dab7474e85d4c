-- A forest with its trees in another order, at every vertex: it is the same tree (`turned`), and there is one whose vertices as they stand are the order by any marks
-- (`arranged`).
--
-- In order: turning the trees of one forest; turning at every vertex; the tree so turned. What rests on `insert_by` is in `proofs.Turned`. Assumes nothing.
use Rattle.std.specs.Prelude.{◌≡◌}
use mathlib.Core.List.{List, [], ◌∷◌, Permᴰ}
use Prim.Native.Nat.{ℕ}
use Rattle.skeleton.specs.Forest.{Forest, none, tree, vertices}
use Rattle.skeleton.specs.Forests.{gather}
use Rattle.skeleton.specs.Codes.{roots}

-- ---- the trees of a forest

-- the vertices of each
unfoldable pub parts : Forest → List (List ℕ)
parts none = []
parts (tree v d f) = (v ∷ vertices d) ∷ parts f

-- f with its trees in another order, there and below, such that they have the vertices L
pub record Turned (f : Forest) (L : List (List ℕ)) : Type 1 where
  pub forest : Forest
  pub lists : parts forest ≡ L
  pub same : {A : Type 0} (x : ℕ → ℕ → List A) (p : ℕ) → Permᴰ (gather x p f) (gather x p forest)

-- ---- at every vertex

-- K gives the children of every vertex of f, in any order; p is the parent of the roots
abbrev pub Follows : (ℕ → ℕ → List ℕ) → ℕ → Forest → Type 0
Follows K p none = Unit {0}
Follows K p (tree v d f) = Permᴰ (K p v) (roots d) × Follows K v d × Follows K p f

-- ---- the tree
