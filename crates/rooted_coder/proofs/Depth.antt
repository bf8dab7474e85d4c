-- The depth that bounds the recursion of the definitions does not show where an order has fewer vertices than it. Assumes nothing.
use mathlib.Core.Path.{◌≡◌, refl, sym, ap, ap₂, ◌∙◌}
use mathlib.Core.List.{List, [], ◌∷◌, flatten, map, map-map}
use Prim.Native.Nat.{ℕ, zero, suc, ◌+◌, ◌≤◌, ◌<◌}
use native.Mathlib.Omega.{arith}
use lib.ListN.{length}
use Rattle.digit_code.specs.document.Code.{sum}
use Rattle.limits.specs.document.Limits.{size}
use Rattle.numbering.specs.document.Order.{sort_by, order_by}
use Rattle.numbering.specs.Order.{pairs, pairs_by}
use Rattle.numbering.proofs.Sorted.{sorted_length}
use Rattle.rooted_coder.specs.Ordered.{mark_of, marked, kids, ordered, compared}
use Rattle.rooted_coder.proofs.Standing.{length_first}

same_map : {A : Type 0} (f : ℕ → List ℕ) (g h : ℕ → A) (n : ℕ) → ((w : ℕ) → length (f w) < n → h w ≡ g w) → (ws : List ℕ) → length (flatten (map f ws)) < n → map h ws ≡ map g ws
same_map f g h n e [] k = refl
same_map f g h n e (w ∷ ws) k =
    let l = length_first (f w) (map f ws) in
    ap₂ (λ x y. x ∷ y) (e w (omega arith)) (same_map f g h n e ws (omega arith))

module _ (m : ℕ → ℕ) (K : ℕ → ℕ → List ℕ) where
  abbrev below : ℕ → ℕ → ℕ → List (List ℕ)
  below n p v = map (order_by m K n v) (K p v)

  deeper : (n p v : ℕ) → length (order_by m K n p v) < n → (order_by m K (suc n) p v ≡ order_by m K n p v) × (pairs_by m K (suc n) p v ≡ pairs_by m K n p v)
  unfolding order_by pairs_by
  deeper zero p v h = let z : ⊥ = omega arith in absurd z
  deeper (suc n) p v h =
      let few : length (flatten (below n p v)) < n = omega (arith, sorted_length (map m) (below n p v)) in
      let o : below (suc n) p v ≡ below n p v = same_map (order_by m K n v) (order_by m K n v) (order_by m K (suc n) v) n (λ w l. (deeper n v w l).0) (K p v) few in (
        ap (λ l. v ∷ flatten (sort_by (map m) l)) o,
        ap₂ (λ x y. sum x + pairs y) (same_map (order_by m K n v) (pairs_by m K n v) (pairs_by m K (suc n) v) n (λ w l. (deeper n v w l).1) (K p v) few)
            (same_map (order_by m K n v) (λ w. map m (order_by m K n v w)) (λ w. map m (order_by m K (suc n) v w)) n (λ w l. ap (map m) (deeper n v w l).0) (K p v) few),
      )

  -- an order with fewer vertices than the depth is made of its children's
  whole : (n p v : ℕ) → length (order_by m K n p v) < n → order_by m K n p v ≡ v ∷ flatten (sort_by (map m) (below n p v))
  unfolding order_by
  whole n p v h = sym (deeper n p v h).0

  whole-pairs : (n p v : ℕ) → length (order_by m K n p v) < n → pairs_by m K n p v ≡ sum (map (pairs_by m K n v) (K p v)) + pairs (map (map m) (below n p v))
  unfolding pairs_by
  whole-pairs n p v h =
      sym (deeper n p v h).1 ∙ ap (λ l. sum (map (pairs_by m K n v) (K p v)) + pairs l) (sym (map-map (map m) (order_by m K n v) (K p v)))

module _ (m : List ℕ) (t : List (List ℕ)) (p v : ℕ) where
  -- the parts of v's children
  abbrev pub branches : List (List ℕ)
  branches = map (ordered m t v) (kids t p v)

  pub some_ordered : 0 < length (ordered m t p v)
  unfolding ordered order_by
  some_ordered = omega arith

  module _ (h : length (ordered m t p v) ≤ size) where
    pub ordered_is : ordered m t p v ≡ v ∷ flatten (sort_by (marked m) branches)
    unfolding ordered
    ordered_is = whole (mark_of m) (kids t) (suc size) p v (omega arith)

    pub compared_is : compared m t p v ≡ sum (map (compared m t v) (kids t p v)) + pairs (map (marked m) branches)
    unfolding ordered compared
    compared_is = whole-pairs (mark_of m) (kids t) (suc size) p v (omega arith)

    pub ordered_length : length (ordered m t p v) ≡ suc (length (flatten branches))
    ordered_length = ap length ordered_is ∙ ap suc (sorted_length (marked m) branches)

    -- a vertex without children
    pub alone : kids t p v ≡ [] → (ordered m t p v ≡ v ∷ []) × (compared m t p v ≡ 0)
    unfolding sort_by flatten sum pairs
    alone e = (
      ordered_is ∙ ap (λ l. v ∷ flatten (sort_by (marked m) (map (ordered m t v) l))) e,
      compared_is ∙ ap (λ l. sum (map (compared m t v) l) + pairs (map (marked m) (map (ordered m t v) l))) e,
    )
