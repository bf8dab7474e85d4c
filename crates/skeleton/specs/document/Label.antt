-- Document 02, wish 7: "Codes compare by digit first and then by atom, C below N below O, vertex by vertex." Here over any labels of the vertices: rooted codes where
-- one number, a mark, is written for the number of a vertex's children and its label. Document 01's codes are those with one label, and a digit for a mark (`Base` of
-- the crate), and those of carbon alone (`Carbon`).
--
-- Decoding needs nothing of its own: it reads the digits off the marks. Nor does the renumbering of a skeleton: that it keeps the labels is said beside it.
--
-- In order: marks; the code; what it tells; renumberings that keep the labels; 20 of marks. What else is said of labels is in `Label` of the crate. Assumes nothing.
use Rattle.std.specs.Prelude.{◌≡◌, ℕ, zero, suc, ◌-◌, ◌≤◌, ◌<◌, length, get_or}
use mathlib.Core.List.{List, [], ◌∷◌, map, flatten}
use Rattle.laws.specs.document.Order.{sort}
use Rattle.refusal.specs.document.Table.{Row}
use Rattle.digit_code.specs.document.Code.{digit, cap}
use Rattle.skeleton.specs.document.Skeleton.{Arc, arcs, children, Renumbering}

-- how a vertex is written, by the number of its children and its label, and how the two are read off again
pub record Marks : Type 1 where
  pub Label : Type 0
  pub mark : ℕ → Label → ℕ
  pub arity : ℕ → ℕ
  pub atom : ℕ → Label
  pub arity_mark : (k : ℕ) (a : Label) → arity (mark k a) ≡ k
  pub atom_mark : (k : ℕ) (a : Label) → atom (mark k a) ≡ a
  pub mark_of : (m : ℕ) → mark (arity m) (atom m) ≡ m

module _ (M : Marks) where
  -- the mark of a vertex with the label a, then its children's codes, largest first
  unfoldable pub joinₗ : M.Label → List (List ℕ) → List ℕ
  joinₗ a cs = M.mark (length cs) a ∷ flatten (sort cs)

  -- the code of what hangs at v, where p is v's parent; n bounds how deep it goes
  unfoldable pub codeₗ : (ℕ → M.Label) → ℕ → List Arc → ℕ → ℕ → List ℕ
  codeₗ label zero A p v = []
  codeₗ label (suc n) A p v = joinₗ (label v) (map (codeₗ label n A v) (children A p v))

  -- the rooted code at r of a tree of N vertices with these labels
  unfoldable pub rootedₗ : (ℕ → M.Label) → ℕ → List ℕ → ℕ → List ℕ
  rootedₗ label N E r = codeₗ label N (arcs E) 0 r

  -- a code's digits, and the label of the vertex of its v-th mark
  unfoldable pub digits : List ℕ → List ℕ
  digits c = map M.arity c

  unfoldable pub labels : List ℕ → ℕ → M.Label
  labels c v = M.atom (get_or c (v - 1) 0)

  -- a renumbering carries the labels f to the labels g
  abbrev pub Keeps : (N : ℕ) (E F : List ℕ) → (ℕ → M.Label) → (ℕ → M.Label) → Renumbering N E F → Type 0
  Keeps N E F f g ρ = (v : ℕ) → 1 ≤ v → v ≤ N → g (ρ.to v) ≡ f v

  -- 20: a vertex has more neighbours than its label allows; the place is its mark
  abbrev pub row20 : (M.Label → ℕ) → List ℕ → Row
  row20 most c = record { number = 20; applies = λ p. (1 ≤ p) × (p ≤ length c) × (cap (most (M.atom (digit c p))) p < M.arity (digit c p)) }
