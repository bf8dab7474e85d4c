-- The pairs of marks looked at where every two siblings are compared once (`pairsₗ`) are those that `document/Pairs` counts (`pairs_countedₗ`), for document 01's codes
-- the pairs of digits (`pairs-counted`). Here stands what rests on `insert_by` or `kids_of`; the rest is in `specs.Pairs`. Assumes nothing.
use Rattle.std.specs.Prelude.{◌≡◌, length}
use Rattle.std.proofs.Math.Path.{refl, ap, ap₂}
use Rattle.std.proofs.Common.{sym, ◌∙◌, arith}
use Rattle.std.proofs.Math.Logic.{⊎_elim}
use mathlib.Core.List.Memᴰ
use mathlib.Core.List.{List, ◌∷◌, map, flatten, Memᴰ, Permᴰ}
use Prim.Native.Nat.{ℕ, zero, suc, ◌+◌, ◌≤◌}
use Rattle.std.proofs.Math.Nat.{add_comm}
use Rattle.std.proofs.lemmas.List.{length-map}
use Rattle.laws.specs.document.Order.{sort}
use Rattle.laws.specs.Perms.{perm_in, perm_length}
use Rattle.digit_code.specs.document.Code.{sum}
use Rattle.skeleton.specs.document.Skeleton.{arcs, children, IsTree}
use Rattle.skeleton.specs.document.Label.{Marks, joinₗ, codeₗ}
use Rattle.skeleton.specs.Forest.{Forest, none, tree, Rooted}
use Rattle.skeleton.specs.Grow.{rooted_tree}
use Rattle.skeleton.specs.Codes.{roots}
use Rattle.skeleton.specs.Degree.{roots_length}
use Rattle.skeleton.specs.Base.{base, code-base}
use Rattle.numbering.specs.document.Order.{order_by}
use Rattle.numbering.specs.Order.{pairs, marks_by, pairs_by}
use Rattle.numbering.proofs.Sorted.{order-marks}
use Rattle.numbering.specs.Turned.{Follows}
use Rattle.numbering.specs.Numbering.{Reads, Fit, root-kids, root-mark, is_followed, is_fit}
use Rattle.numbering.specs.document.Order.{mark_at}
use Rattle.numbering.specs.Numbers.{pairsₗ, reads_tree}
use Rattle.numbering.specs.Same.{map_in}
use Rattle.numbering.specs.document.Pairs.{sibling_pairs, pairs_at, rooted_pairs, rooted_pairsₗ}
use Rattle.numbering.specs.Pairs.{siblings-counted}

module _ (M : Marks) (label : ℕ → M.Label) (E : List ℕ) (m : ℕ → ℕ) where
  -- the marks and the pairs at v are those of the code, and what is counted of it
  record Counted (n p v : ℕ) : Type 0 where
    code : marks_by m (children (arcs E)) n p v ≡ codeₗ M label n (arcs E) p v
    count : pairs_by m (children (arcs E)) n p v ≡ pairs_at (codeₗ M label) n (arcs E) p v

  over : (n p v : ℕ) → m v ≡ M.mark (length (children (arcs E) p v)) (label v) → ((w : ℕ) → Memᴰ w (children (arcs E) p v) → Counted n v w) → Counted (suc n) p v
  unfolding marks_by pairs_by codeₗ joinₗ pairs_at
  over n p v e s =
      let K : ℕ → ℕ → List ℕ = children (arcs E) in
      let ks : List ℕ = K p v in
      let at : ℕ → List ℕ = codeₗ M label n (arcs E) v in
      let codes : map (marks_by m K n v) ks ≡ map at ks = map_in (marks_by m K n v) at ks (λ w h. (s w h).code) in
      let marks : map (λ w. map m (order_by m K n v w)) ks ≡ map (marks_by m K n v) ks = λ i. map (λ w. order-marks m K n v w i) ks in
      let counts : map (pairs_by m K n v) ks ≡ map (pairs_at (codeₗ M label) n (arcs E) v) ks =
      map_in (pairs_by m K n v) (pairs_at (codeₗ M label) n (arcs E) v) ks (λ w h. (s w h).count) in
      record {
        code = ap₂ (λ x l. x ∷ flatten (sort l)) (e ∙ ap (λ k. M.mark k (label v)) (sym (length-map ks at))) codes;
        count =
            ap₂ ◌+◌ (ap sum counts) (ap pairs (marks ∙ codes) ∙ siblings-counted (map at ks))
            ∙ add_comm (sum (map (pairs_at (codeₗ M label) n (arcs E) v) ks)) (sibling_pairs (map at ks));
      }

  -- on a forest
  counted : (n p : ℕ) (f : Forest) → Follows (children (arcs E)) p f → Fit M label m f → (v : ℕ) → Memᴰ v (roots f) → Counted n p v
  unfolding roots marks_by pairs_by codeₗ pairs_at
  counted n p none k x v h = absurd (Memᴰ.not-nil h)
  counted zero p (tree u d f) k x v h = record { code = refl; count = refl }
  counted (suc n) p (tree u d f) (π, k, l) (e, x, y) v h =
      let here : Counted (suc n) p u = over n p u (e ∙ ap (λ k. M.mark k (label u)) (sym (perm_length π ∙ roots_length d))) (λ w q. counted n u d k x w (perm_in π q)) in
      ⊎_elim (λ q. rw q here) (counted (suc n) p f l y v) (Memᴰ.cases_cons h)

pub pairs_countedₗ : (M : Marks) (l : ℕ → M.Label) (N : ℕ) (E : List ℕ) (r : ℕ) → IsTree N E → 1 ≤ r → r ≤ N → pairsₗ M l N E r ≡ rooted_pairsₗ M l N E r
unfolding pairsₗ rooted_pairsₗ
pairs_countedₗ M l zero E r t a b = let z : ⊥ = omega arith in absurd z
pairs_countedₗ M l (suc n) E r t a b =
    let m : ℕ → ℕ = mark_at M l E r in
    let K : ℕ → ℕ → List ℕ = children (arcs E) in
    let s : Rooted (suc n) E r = rooted_tree (suc n) E r t a b in
    let ρ : Reads M l (suc n) E r m K = reads_tree M l (suc n) E r in
    let π : Permᴰ (K 0 r) (roots s.forest) = root-kids M l (suc n) E r m K ρ s in
    (over M l E m n 0 r (root-mark M l (suc n) E r m K ρ s ∙ ap (λ k. M.mark k (l r)) (sym (perm_length π ∙ roots_length s.forest)))
    (λ w h. counted M l E m n r s.forest (is_followed M l (suc n) E r m K ρ s) (is_fit M l (suc n) E r m K ρ s) w (perm_in π h))
    ).count

-- for document 01's codes
pub pairs-counted : (N : ℕ) (E : List ℕ) (r : ℕ) → IsTree N E → 1 ≤ r → r ≤ N → pairsₗ base (λ v. tt) N E r ≡ rooted_pairs N E r
unfolding rooted_pairs rooted_pairsₗ
pairs-counted N E r t a b = pairs_countedₗ base (λ v. tt) N E r t a b ∙ ap (λ code. pairs_at code N (arcs E) 0 r) (λ i n A p v. code-base (λ w. tt) n A p v i)
