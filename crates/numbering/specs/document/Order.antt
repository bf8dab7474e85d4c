-- Document 01, "Numbering by code": "The vertex of the i-th digit gets number i", of an edge list and a root: which vertex that is. Of siblings with
-- equal codes the one whose edge is listed first goes first.
--
-- In order: sorting by a key; what hangs at a vertex, over any marks (m) and children (K); the order of an edge list's vertices, and of one whose vertices
-- have labels. That it is the order of the digits is `order-numbers`. Assumes nothing.
use Rattle.std.proofs.Math.Logic.{ite}
use mathlib.Core.List.{List, [], ◌∷◌, map, flatten}
use Rattle.std.specs.Prelude.{ℕ, zero, suc, ◌-◌}
use Rattle.std.proofs.Math.Decide.{ℕ_discrete}
use Rattle.laws.specs.document.Order.{dec≽}
use Rattle.skeleton.specs.document.Skeleton.{arcs, degree, children}
use Rattle.skeleton.specs.document.Label.{Marks}

-- c put before the first of ds whose key its own stands at or after
unfoldable pub insert_by : (List ℕ → List ℕ) → List ℕ → List (List ℕ) → List (List ℕ)
insert_by f c [] = c ∷ []
insert_by f c (d ∷ ds) = ite (dec≽ (f c) (f d)) (c ∷ d ∷ ds) (d ∷ insert_by f c ds)

-- largest key first; of equal ones the first first
unfoldable pub sort_by : (List ℕ → List ℕ) → List (List ℕ) → List (List ℕ)
sort_by f [] = []
sort_by f (c ∷ cs) = insert_by f c (sort_by f cs)

module _ (m : ℕ → ℕ) (K : ℕ → ℕ → List ℕ) where
  -- what hangs at v, where p is v's parent: v, then what hangs at its children, that with the largest marks first; n bounds how deep it goes
  unfoldable pub order_by : ℕ → ℕ → ℕ → List ℕ
  order_by zero p v = []
  order_by (suc n) p v = v ∷ flatten (sort_by (map m) (map (order_by n v) (K p v)))

-- how many children v has where r is the root: all its neighbours, or all but one
unfoldable pub kids_of : List ℕ → ℕ → ℕ → ℕ
kids_of E r v = ite (ℕ_discrete v r) (degree E v) (degree E v - 1)

-- document 01's codes: the vertices of the tree E of N vertices in the order of the digits of its rooted code at r
unfoldable pub order : ℕ → List ℕ → ℕ → List ℕ
order N E r = order_by (kids_of E r) (children (arcs E)) N 0 r

-- where vertices have labels
module _ (M : Marks) (label : ℕ → M.Label) where
  -- the mark of v where r is the root
  abbrev pub mark_at : List ℕ → ℕ → ℕ → ℕ
  mark_at E r v = M.mark (kids_of E r v) (label v)

  -- the vertices in the order of the marks of the rooted code at r
  unfoldable pub orderₗ : ℕ → List ℕ → ℕ → List ℕ
  orderₗ N E r = order_by (mark_at E r) (children (arcs E)) N 0 r
