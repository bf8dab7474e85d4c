-- Document 01, "Numbering by code": "The vertex of the i-th digit gets number i." The order of the vertices by any marks and children that read the tree right: its marks
-- are the rooted code, and numbering each vertex by its place in it carries the tree to what its code decodes to (`numbering`). Here stands what rests on `insert_by`;
-- the rest is in `specs.Numbering`. Assumes nothing.
use Rattle.std.specs.Prelude.{◌≡◌}
use Rattle.std.proofs.Math.Path.{refl, ap, ap₂, sym}
use Rattle.std.proofs.Common.{◌∙◌, subst}
use mathlib.Core.List.Permᴰ
use mathlib.Core.List.{List, ◌∷◌, ◌++◌, map, flatten, map-append, Permᴰ}
use Prim.Native.Nat.{ℕ, zero, suc, ◌≤◌}
use native.Mathlib.Omega.{arith}
use Rattle.laws.specs.document.Order.{sort}
use Rattle.laws.specs.Sorting.{sort_perm}
use Rattle.skeleton.specs.document.Skeleton.{IsTree}
use Rattle.skeleton.specs.Forest.{Forest, none, tree, vertices, count, Rooted}
use Rattle.skeleton.specs.Forests.{count-vertices, distinct_once}
use Rattle.skeleton.specs.Grow.{rooted_tree}
use Rattle.skeleton.specs.document.Label.{Marks, joinₗ, rootedₗ, digits}
use Rattle.skeleton.specs.Codes.{roots, branches, rooted-join}
use Rattle.skeleton.specs.Decoding.{width, marks, marks-digits, marks-labels}
use Rattle.skeleton.specs.Sorted.{branches_length}
use Rattle.skeleton.specs.Numbered.{told}
use Rattle.numbering.specs.document.Order.{order_by}
use Rattle.numbering.specs.Order.{marks_by}
use Rattle.numbering.proofs.Sorted.{order-marks}
use Rattle.numbering.specs.Turned.{Follows}
use Rattle.numbering.proofs.Turned.{arranged}
use Rattle.numbering.specs.Numbering.{Reads, Orders, Fit, root-kids, root-mark, is_followed, is_fit}

module _ (M : Marks) (label : ℕ → M.Label) (m : ℕ → ℕ) where
  fit_marks : (f : Forest) → (Fit M label m) f → map m (vertices f) ≡ marks M label f
  unfolding vertices marks
  fit_marks none x = refl
  fit_marks (tree v d f) (e, x, y) = ap₂ ◌∷◌ e (map-append m (vertices d) (vertices f) ∙ ap₂ ◌++◌ (fit_marks d x) (fit_marks f y))

  module _ (K : ℕ → ℕ → List ℕ) where
    over : (n p v : ℕ) (d : Forest) → m v ≡ M.mark (width d) (label v) → Permᴰ (K p v) (roots d) → map (marks_by m K n v) (roots d) ≡ branches M label d
        → marks_by m K (suc n) p v ≡ joinₗ M (label v) (branches M label d)
    unfolding marks_by joinₗ
    over n p v d e π q =
        ap₂ (λ x l. x ∷ flatten l) (e ∙ ap (λ k. M.mark k (label v)) (sym (branches_length M label d))) (sort_perm (Permᴰ.map (marks_by m K n v) π) ∙ ap sort q)

    marks-branches : (n p : ℕ) (f : Forest) → count f ≤ n → Follows K p f → (Fit M label m) f → map (marks_by m K n p) (roots f) ≡ branches M label f
    unfolding roots branches count
    marks-branches n p none h k x = refl
    marks-branches zero p (tree v d f) h k x = let z : ⊥ = omega arith in absurd z
    marks-branches (suc n) p (tree v d f) h (π, k, l) (e, x, y) =
        ap₂ ◌∷◌ (over n p v d e π (marks-branches n v d (omega arith) k x)) (marks-branches (suc n) p f (omega arith) l y)

module _ (M : Marks) (label : ℕ → M.Label) (N : ℕ) (E : List ℕ) (r : ℕ) (m : ℕ → ℕ) (K : ℕ → ℕ → List ℕ) (ρ : Reads M label N E r m K) where
  -- of the tree as any forest
  module _ (t : Rooted N E r) where
    -- the marks of the vertices in their order are the rooted code
    order-code : (n : ℕ) → N ≤ n → map m (order_by m K n 0 r) ≡ rootedₗ M label N E r
    order-code zero h = let z : ⊥ = omega (arith, t.full) in absurd z
    order-code (suc n) h =
        order-marks m K (suc n) 0 r
        ∙ over M label m K n 0 r t.forest (root-mark M label N E r m K ρ t) (root-kids M label N E r m K ρ t) (marks-branches M label m K n r t.forest (omega (arith, t.full)) (is_followed M label N E r m K ρ t) (is_fit M label N E r m K ρ t))
        ∙ sym (rooted-join M label N E r t)

    as_it_stands : map m (r ∷ vertices t.forest) ≡ rootedₗ M label N E r → Orders M label N E r m (r ∷ vertices t.forest)
    unfolding digits
    as_it_stands c =
        let f : Forest = t.forest in
        let e : rootedₗ M label N E r ≡ M.mark (width f) (label r) ∷ marks M label f = sym c ∙ ap₂ ◌∷◌ (root-mark M label N E r m K ρ t) (fit_marks M label m f (is_fit M label N E r m K ρ t)) in
        record {
          all = omega (arith, t.full, count-vertices f);
          once = (t.apart, (distinct_once f).0 t.distinct);
          first = refl;
          within = t.inside;
          has = t.all;
          code = c;
          numbers = told M N E r label t (rootedₗ M label N E r)
              (ap (digits M) e ∙ ap₂ ◌∷◌ (M.arity_mark (width f) (label r)) (marks-digits M label f))
              (ap (map M.atom) e ∙ ap₂ ◌∷◌ (M.atom_mark (width f) (label r)) (marks-labels M label f));
        }

  numbering : (n : ℕ) → N ≤ n → Rooted N E r → Orders M label N E r m (order_by m K n 0 r)
  numbering n h t =
      let (s, e) = arranged N E r t m K n 0 h ((root-kids M label N E r m K ρ) t) ((is_followed M label N E r m K ρ) t) in
      subst (Orders M label N E r m) e (as_it_stands s (ap (map m) e ∙ order-code t n h))

  pub tree_numbering : (n : ℕ) → N ≤ n → IsTree N E → 1 ≤ r → r ≤ N → Orders M label N E r m (order_by m K n 0 r)
  tree_numbering n h t a b = numbering n h (rooted_tree N E r t a b)
