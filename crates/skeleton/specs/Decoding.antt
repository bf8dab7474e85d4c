-- Decoding, on forests: the digits of a forest as it stands decode to its edges, with the numbers that the digits' positions give
-- (`decode_forest`). Sorting is in `Sorted`, and what the renumbering is in `Renumber`. Assumes nothing.
use Rattle.std.specs.Prelude.{◌≡◌, List, [], ◌∷◌, ◌++◌, map, ℕ, suc, ◌+◌, length, replicate}
use Rattle.std.proofs.Math.Path.{refl, ap₂, sym}
use Rattle.std.proofs.Common.{ap, ◌∙◌, append-nil, append_assoc, zero-add, suc-add, arith, length-append}
use Rattle.std.proofs.lemmas.List.{map-append}
use Rattle.digit_code.specs.document.Code.{edges_from, decode}
use Rattle.digit_code.specs.Ends.{Ends}
use Rattle.skeleton.specs.document.Skeleton.{arcs}
use Rattle.skeleton.specs.Forest.{Forest, none, tree, vertices, count, hung}
use Rattle.skeleton.specs.document.Label.{Marks, digits}

-- how many trees a forest has
unfoldable pub width : Forest → ℕ
width none = 0
width (tree v d f) = suc (width f)

-- the digits of a forest, in the order in which it stands
unfoldable pub shape : Forest → List ℕ
shape none = []
shape (tree v d f) = width d ∷ (shape d ++ shape f)

-- the same forest, its vertices numbered from j in the order of their digits
unfoldable pub number : ℕ → Forest → Forest
number j none = none
number j (tree v d f) = tree j (number (suc j) d) (number (suc j + count d) f)

-- the edges of a forest whose roots hang under p, parent first
unfoldable pub edges_of_forest : ℕ → Forest → List ℕ
edges_of_forest p none = []
edges_of_forest p (tree v d f) = p ∷ v ∷ (edges_of_forest v d ++ edges_of_forest p f)

pub shape_length : (f : Forest) → length (shape f) ≡ count f
unfolding shape count
shape_length none = refl
shape_length (tree v d f) = omega (arith, length-append (shape d) (shape f), shape_length d, shape_length f)

pub number-count : (j : ℕ) (f : Forest) → count (number j f) ≡ count f
unfolding number count
number-count j none = refl
number-count j (tree v d f) = omega (arith, number-count (suc j) d, number-count (suc j + count d) f)

edges-arcs : (p : ℕ) (f : Forest) (E : List ℕ) → arcs (edges_of_forest p f ++ E) ≡ hung p f ++ arcs E
unfolding edges_of_forest hung arcs
edges-arcs p none E = refl
edges-arcs p (tree v d f) E = ap (λ l. (p, v) ∷ (v, p) ∷ l) (
    ap arcs (append_assoc (edges_of_forest v d) (edges_of_forest p f) E)
    ∙ edges-arcs v d (edges_of_forest p f ++ E)
    ∙ ap (λ l. hung v d ++ l) (edges-arcs p f E)
    ∙ sym (append_assoc (hung v d) (hung p f) (arcs E))
    )

pub edges-hung : (p : ℕ) (f : Forest) → arcs (edges_of_forest p f) ≡ hung p f
unfolding arcs
edges-hung p f = ap arcs (sym (append-nil (edges_of_forest p f))) ∙ edges-arcs p f [] ∙ append-nil (hung p f)

-- digits that are a forest's, and then others: the forest's edges, then those of the others
edges_forest : (p : ℕ) (f : Forest) (W : List ℕ) (j : ℕ) (ds : List ℕ)
    → edges_from (replicate (width f) p ++ W) j (shape f ++ ds) ≡ edges_of_forest p (number j f) ++ edges_from W (j + count f) ds
unfolding edges_from width shape number count edges_of_forest
edges_forest p none W j ds = let e : j ≡ j + 0 = omega arith in ap (λ k. edges_from W k ds) e
edges_forest p (tree v d f) W j ds =
    let e : suc j + count d + count f ≡ j + suc (count d + count f) = omega arith in
    ap (λ l. p ∷ j ∷ l) (
    ap (edges_from (replicate (width d) j ++ (replicate (width f) p ++ W)) (suc j)) (append_assoc (shape d) (shape f) ds)
    ∙ edges_forest j d (replicate (width f) p ++ W) (suc j) (shape f ++ ds)
    ∙ ap (λ l. edges_of_forest j (number (suc j) d) ++ l) (edges_forest p f W (suc j + count d) ds ∙ ap (λ k. edges_of_forest p (number (suc j + count d) f) ++ edges_from W k ds) e)
    ∙ sym (append_assoc (edges_of_forest j (number (suc j) d)) (edges_of_forest p (number (suc j + count d) f)) (edges_from W (j + suc (count d + count f)) ds))
    )

pub decode_forest : (f : Forest) → decode (width f ∷ shape f) ≡ edges_of_forest 1 (number 2 f)
unfolding decode edges_from
decode_forest f =
    ap₂ (λ W ds. edges_from W 2 ds) (sym (append-nil (replicate (width f) 1))) (sym (append-nil (shape f))) ∙ edges_forest 1 f [] 2 [] ∙ append-nil (edges_of_forest 1 (number 2 f))

-- the forest's digits fill as many places as it has trees
pub ends_forest : (f : Forest) (w : ℕ) (ds : List ℕ) → Ends w ds → Ends (width f + w) (shape f ++ ds)
unfolding width shape
ends_forest none w ds h = rw zero-add h
ends_forest (tree v d f) w ds h = rw (suc-add, append_assoc) (ends_forest d (width f + w) (shape f ++ ds) (ends_forest f w ds h))

-- the marks of a forest, in the order in which it stands
module _ (M : Marks) (label : ℕ → M.Label) where
  unfoldable pub marks : Forest → List ℕ
  marks none = []
  marks (tree v d f) = M.mark (width d) (label v) ∷ (marks d ++ marks f)

  pub marks-digits : (f : Forest) → digits M (marks f) ≡ shape f
  unfolding marks shape digits
  marks-digits none = refl
  marks-digits (tree v d f) =
      ap₂ (λ x y. x ∷ y) (M.arity_mark (width d) (label v)) (map-append M.arity (marks d) (marks f) ∙ ap₂ (λ x y. x ++ y) (marks-digits d) (marks-digits f))

  pub marks-labels : (f : Forest) → map M.atom (marks f) ≡ map label (vertices f)
  unfolding marks vertices
  marks-labels none = refl
  marks-labels (tree v d f) =
      ap₂ (λ x y. x ∷ y) (M.atom_mark (width d) (label v)) (map-append M.atom (marks d) (marks f) ∙ ap₂ (λ x y. x ++ y) (marks-labels d) (marks-labels f) ∙ sym (map-append label (vertices d) (vertices f)))
