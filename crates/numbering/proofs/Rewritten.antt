-- Marks written by other numbers in the same order (`Rewritten` of the crate `skeleton`): the order of the vertices is the same, and as many pairs of marks are looked
-- at. So an all-carbon skeleton keeps both. Assumes nothing.
use Rattle.std.specs.Prelude.{◌≡◌, ◌↔◌}
use Rattle.std.proofs.Math.Path.{refl, ap, ap₂, sym}
use Rattle.std.proofs.Common.{◌∙◌}
use Rattle.std.proofs.Math.Logic.{ite}
use mathlib.Core.List.{List, [], ◌∷◌, map, flatten, map-map}
use Prim.Native.Nat.{ℕ, zero, suc, ◌+◌, ◌≤◌}
use Rattle.laws.specs.document.Order.{◌≽◌, dec≽}
use Rattle.laws.specs.Rising.{Rising, same-order}
use Rattle.digit_code.specs.document.Code.{sum}
use Rattle.digit_code.specs.Compare.{looked, looked_risen}
use Rattle.skeleton.specs.document.Skeleton.{arcs, children, IsTree}
use Rattle.skeleton.specs.document.Label.{Marks}
use Rattle.skeleton.specs.Base.{base}
use Rattle.skeleton.specs.document.AtomMarks.{atoms}
use Rattle.skeleton.specs.Rewritten.{Rewritten}
use Rattle.skeleton.specs.Carbon.{carbon}
use Rattle.skeleton.proofs.Carbon.{carbon-marks}
use Rattle.numbering.specs.document.Order.{insert_by, sort_by, order_by, kids_of, order}
use Rattle.numbering.specs.document.Pairs.{rooted_pairs}
use Rattle.numbering.specs.Order.{pairs, pairs_by}
use Rattle.numbering.specs.document.Order.{mark_at, orderₗ}
use Rattle.numbering.specs.Numbers.{pairsₗ}
use Rattle.numbering.proofs.Pairs.{pairs-counted}

module _ (f g : List ℕ → List ℕ) (alike : (c d : List ℕ) → (f c ≽ f d) ↔ (g c ≽ g d)) where
  insert-alike : (c : List ℕ) (l : List (List ℕ)) → insert_by f c l ≡ insert_by g c l
  unfolding insert_by
  insert-alike c [] = refl
  insert-alike c (d ∷ ds) = step (dec≽ (f c) (f d)) (dec≽ (g c) (g d)) (insert-alike c ds)
    where
      step : (s : Dec (f c ≽ f d)) (t : Dec (g c ≽ g d)) → insert_by f c ds ≡ insert_by g c ds → ite s (c ∷ d ∷ ds) (d ∷ insert_by f c ds) ≡ ite t (c ∷ d ∷ ds) (d ∷ insert_by g c ds)
      step (yes h) (yes k) e = refl
      step (yes h) (no k) e = absurd (k ((alike c d).0 h))
      step (no h) (yes k) e = absurd (h ((alike c d).1 k))
      step (no h) (no k) e = ap (λ l. d ∷ l) e

  sort-alike : (cs : List (List ℕ)) → sort_by f cs ≡ sort_by g cs
  unfolding sort_by
  sort-alike [] = refl
  sort-alike (c ∷ cs) = insert-alike c (sort_by f cs) ∙ ap (insert_by g c) (sort-alike cs)

module _ (φ : ℕ → ℕ) (up : Rising φ) where
  pairs_risen : (cs : List (List ℕ)) → pairs (map (map φ) cs) ≡ pairs cs
  unfolding pairs
  pairs_risen [] = refl
  pairs_risen (c ∷ cs) = ap₂ ◌+◌ (ap sum (map-map (looked (map φ c)) (map φ) cs ∙ (λ i. map (λ d. looked_risen φ up c d i) cs))) (pairs_risen cs)

  module _ (m : ℕ → ℕ) (K : ℕ → ℕ → List ℕ) where
    abbrev written : ℕ → ℕ
    written v = φ (m v)

    keys : (c d : List ℕ) → (map written c ≽ map written d) ↔ (map m c ≽ map m d)
    keys c d = rw (← map-map φ m c, ← map-map φ m d) (let (there, back) = same-order φ up (map m c) (map m d) in (back, there))

    order_risen : (n p v : ℕ) → order_by written K n p v ≡ order_by m K n p v
    unfolding order_by
    order_risen zero p v = refl
    order_risen (suc n) p v =
        ap (λ l. v ∷ flatten l) (
        (λ i. sort_by (map written) (map (λ w. order_risen n v w i) (K p v)))
        ∙ sort-alike (map written) (map m) keys (map (order_by m K n v) (K p v))
        )

    count_risen : (n p v : ℕ) → pairs_by written K n p v ≡ pairs_by m K n p v
    unfolding pairs_by
    count_risen zero p v = refl
    count_risen (suc n) p v =
        let ks : List ℕ = K p v in
        let o : ℕ → List ℕ = order_by m K n v in
        let e : map (λ w. map written (order_by written K n v w)) ks ≡ map (map φ) (map (λ w. map m (o w)) ks) =
        (λ i. map (λ w. map written (order_risen n v w i)) ks) ∙ (λ i. map (λ w. sym (map-map φ m (o w)) i) ks) ∙ sym (map-map (map φ) (λ w. map m (o w)) ks) in
        ap₂ ◌+◌ (λ i. sum (map (λ w. count_risen n v w i) ks)) (ap pairs e ∙ pairs_risen (map (λ w. map m (o w)) ks))

module _ (M P : Marks) {l : ℕ → M.Label} {k : ℕ → P.Label} {φ : ℕ → ℕ} (w : Rewritten M P l k φ) (N : ℕ) (E : List ℕ) (r : ℕ) where
  pub order_rewritten : orderₗ P k N E r ≡ orderₗ M l N E r
  unfolding orderₗ
  order_rewritten =
      (λ i. order_by (λ v. w.marks (kids_of E r v) v i) (children (arcs E)) N 0 r)
      ∙ order_risen φ w.rising (mark_at M l E r) (children (arcs E)) N 0 r

  pub pairs_rewritten : pairsₗ P k N E r ≡ pairsₗ M l N E r
  unfolding pairsₗ
  pairs_rewritten =
      (λ i. pairs_by (λ v. w.marks (kids_of E r v) v i) (children (arcs E)) N 0 r)
      ∙ count_risen φ w.rising (mark_at M l E r) (children (arcs E)) N 0 r

module _ (N : ℕ) (E : List ℕ) (r : ℕ) where
  -- the vertices of an all-carbon skeleton stand in document 01's order
  pub order-carbon : orderₗ atoms carbon N E r ≡ order N E r
  unfolding order orderₗ
  order-carbon = order_rewritten base atoms carbon-marks N E r

  -- and as many pairs are looked at
  pub pairs-carbon : pairsₗ atoms carbon N E r ≡ pairsₗ base (λ v. tt) N E r
  pairs-carbon = pairs_rewritten base atoms carbon-marks N E r

  pub carbon-counted : IsTree N E → 1 ≤ r → r ≤ N → pairsₗ atoms carbon N E r ≡ rooted_pairs N E r
  carbon-counted t a b = pairs-carbon ∙ pairs-counted N E r t a b
