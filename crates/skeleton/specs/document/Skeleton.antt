-- Document 01, "The skeletons we send" and "Codes": a skeleton by its edge list, its rooted code at a vertex, and what it is to be
-- the same skeleton under other numbers.
--
-- Digits alone (where a code ends, decoding) are in the crate `digit_code`. Theorems are in `Theorems`. Assumes nothing.
use Rattle.std.specs.Prelude.{◌≡◌, ℕ, zero, suc, ◌+◌, ◌*◌, ◌≤◌, length}
use Rattle.std.proofs.Math.Logic.{Dec.not as dec_not}
use mathlib.Core.List.{List, [], ◌∷◌, map, filter, flatten, Memᴰ, Permᴰ}
use Rattle.std.proofs.Math.Decide.{ℕ_discrete}
use Rattle.laws.specs.document.Order.{sort}

-- an edge from one of its ends: this end, and the other
abbrev pub Arc : Type 0
Arc = ℕ × ℕ

-- An edge list is flat, two vertices for each edge. Its arcs are its edges, each from either end.
unfoldable pub arcs : List ℕ → List Arc
arcs [] = []
arcs (a ∷ []) = []
arcs (a ∷ b ∷ E) = (a, b) ∷ (b, a) ∷ arcs E

-- the neighbours of v, in the order of the edges
unfoldable pub neighbours : List Arc → ℕ → List ℕ
neighbours A v = map (λ e. e.1) (filter {p = λ e. e.0 ≡ v} (λ e. ℕ_discrete e.0 v) A)

-- how many neighbours v has
unfoldable pub degree : List ℕ → ℕ → ℕ
degree E v = length (neighbours (arcs E) v)

-- joined, directly or through others
pub data Walk (A : List Arc) : ℕ → ℕ → Type 0 where
  here : {v : ℕ} → Walk A v v
  along : {u v w : ℕ} → Memᴰ (u, v) A → Walk A v w → Walk A u w

-- a tree on the vertices 1 to N: N - 1 edges, and a walk from vertex 1 to each vertex
pub record IsTree (N : ℕ) (E : List ℕ) : Type 0 where
  pub edges : length E + 2 ≡ 2 * N
  pub inside : (v : ℕ) → Memᴰ v E → (1 ≤ v) × (v ≤ N)
  pub linked : (v : ℕ) → 1 ≤ v → v ≤ N → Walk (arcs E) 1 v

-- no vertex has more than R neighbours
unfoldable pub Degrees : ℕ → ℕ → List ℕ → Type 0
Degrees R N E = (v : ℕ) → 1 ≤ v → v ≤ N → degree E v ≤ R

-- a skeleton: a tree of at most `most` vertices, each of degree at most R
pub record IsSkeleton (most R N : ℕ) (E : List ℕ) : Type 0 where
  pub tree : IsTree N E
  pub few : N ≤ most
  pub degrees : Degrees R N E

-- the neighbours of v but its parent p
unfoldable pub children : List Arc → ℕ → ℕ → List ℕ
children A p v = filter {p = λ w. ¬ (w ≡ p)} (λ w. dec_not (ℕ_discrete w p)) (neighbours A v)

-- "the digit k, then its children's codes, largest first in dictionary order"
unfoldable pub join : List (List ℕ) → List ℕ
join cs = length cs ∷ flatten (sort cs)

-- the code of what hangs at v, where p is v's parent; n bounds how deep it goes
unfoldable pub code_at : ℕ → List Arc → ℕ → ℕ → List ℕ
code_at zero A p v = []
code_at (suc n) A p v = join (map (code_at n A v) (children A p v))

-- the rooted code at r of a tree of N vertices; the root has no parent, and no vertex is 0
unfoldable pub rooted : ℕ → List ℕ → ℕ → List ℕ
rooted N E r = code_at N (arcs E) 0 r

-- the same skeleton under other numbers: a one-to-one renumbering of 1 to N that carries the edges of E to those of F, and back
pub record Renumbering (N : ℕ) (E F : List ℕ) : Type 0 where
  pub to : ℕ → ℕ
  pub from : ℕ → ℕ
  pub to_in : (v : ℕ) → 1 ≤ v → v ≤ N → (1 ≤ to v) × (to v ≤ N)
  pub from_in : (v : ℕ) → 1 ≤ v → v ≤ N → (1 ≤ from v) × (from v ≤ N)
  pub from_to : (v : ℕ) → 1 ≤ v → v ≤ N → from (to v) ≡ v
  pub to_from : (v : ℕ) → 1 ≤ v → v ≤ N → to (from v) ≡ v
  pub carries : Permᴰ (map (λ e. (to e.0, to e.1)) (arcs E)) (arcs F)
