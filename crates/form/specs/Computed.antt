-- Skeletons of a few vertices, computed with: a tree by the lower neighbour of each vertex, its centred code by peeling a list of its
-- vertices, and its N-tuple code by trying every root (`some_n_tuple` of `One`); and the three in one. Document 01's table, `Figures` of the
-- crate `zurkhovel`, is proved by them. Assumes nothing.
use Rattle.std.specs.Prelude.{◌≡◌, refl, length}
use Rattle.std.proofs.Math.Logic.{inl, inr, ⊎_elim, ite}
use mathlib.Core.List.Memᴰ
use mathlib.Core.List.{List, [], ◌∷◌, Memᴰ}
use Prim.Native.Nat.{ℕ, zero, suc, ◌+◌, ◌*◌, ◌≤◌, ◌<◌}
use Rattle.std.proofs.Math.Decide.{ℕ_discrete}
use native.Mathlib.Omega.{arith}
use Rattle.laws.specs.document.Order.{◌≽◌, dec≽}
use Rattle.laws.specs.Sorting.{below≽}
use Rattle.laws.specs.Once.{up_to, in_up_to, up_to_in}
use Rattle.skeleton.specs.document.Skeleton.{Arc, arcs, degree, Walk, here, along, IsTree, Degrees, IsSkeleton, rooted}
use Rattle.skeleton.specs.Walks.{walk_on}
use Rattle.longest_path.specs.document.Path.{middle₁, middle₂, IsCentre}
use Rattle.longest_path.specs.Peel.{Left, start, round}
use Rattle.longest_path.specs.Centre.{done}
use Rattle.longest_path.specs.Run.{In, peel, peel_is}
use Rattle.form.specs.document.Form.{Centred, IsNTuple, IsCentred}
use Rattle.form.specs.One.{at_first, at_second, some_n_tuple}

-- ---- a tree by lower neighbours

-- the edges join vertex j to a lower one, then j + 1 to a lower one, and so on
abbrev pub Lower : ℕ → List ℕ → Type 0
Lower j [] = Unit {0}
Lower j (p ∷ []) = ⊥
Lower j (p ∷ v ∷ E) = (1 ≤ p) × (p < j) × (v ≡ j) × Lower (suc j) E

lower_in : (j : ℕ) (E : List ℕ) → Lower j E → (v : ℕ) → Memᴰ v E → (1 ≤ v) × (2 * v < 2 * j + length E)
lower_in j [] l v m = absurd (Memᴰ.not-nil m)
lower_in j (p ∷ []) l v m = absurd l
lower_in j (p ∷ u ∷ E) (a, b, e, l) v (Memᴰ.head f) = omega arith
lower_in j (p ∷ u ∷ E) (a, b, e, l) v (Memᴰ.tail (Memᴰ.head f)) = omega arith
lower_in j (p ∷ u ∷ E) (a, b, e, l) v (Memᴰ.tail (Memᴰ.tail m)) = omega (arith, lower_in (suc j) E l v m)

lower_linked : (A : List Arc) (j : ℕ) (E : List ℕ) → Lower j E → ((e : Arc) → Memᴰ e (arcs E) → Memᴰ e A) → ((v : ℕ) → 1 ≤ v → v < j → Walk A 1 v)
    → (v : ℕ) → 1 ≤ v → 2 * v < 2 * j + length E → Walk A 1 v
unfolding arcs
lower_linked A j [] l s w v h k = w v h (omega arith)
lower_linked A j (p ∷ []) l s w v h k = absurd l
lower_linked A j (p ∷ u ∷ E) (a, b, e, l) s w v h k = lower_linked A (suc j) E l (λ x m. s x (Memᴰ.tail (Memᴰ.tail m))) next v h (omega arith)
  where
    next : (v : ℕ) → 1 ≤ v → v < suc j → Walk A 1 v
    next v h k = elim (ℕ_discrete v u) [ yes f ↦ walk_on (w p a b) (along (s (p, v) (Memᴰ.head (λ i. (p, f i)))) here) | no n ↦ w v h (omega arith) ]

pub lower_tree : (N : ℕ) (E : List ℕ) → length E + 2 ≡ 2 * N → Lower 2 E → IsTree N E
lower_tree N E e l = record {
  edges = e;
  inside = λ v m. omega (arith, lower_in 2 E l v m);
  linked = λ v h k. lower_linked (arcs E) 2 E l (λ x m. m) (λ w a b. let f : w ≡ 1 = omega arith in rw f here) v h (omega arith);
}

-- ---- the centre by peeling

-- what n rounds leave of the vertices l
unfoldable pub left : List ℕ → ℕ → List ℕ → List ℕ
left E zero l = l
left E (suc n) l = left E n (peel E l)

-- the larger of two codes
unfoldable pub larger : List ℕ → List ℕ → List ℕ
larger c d = ite (dec≽ c d) c d

module _ (N : ℕ) (E : List ℕ) (t : IsTree N E) where
  left_is : (n k : ℕ) (l : List ℕ) → Left N E (In l) k → (m : ℕ) × Left N E (In (left E n l)) m
  unfolding left
  left_is zero k l a = (k, a)
  left_is (suc n) k l a = left_is n (k + 1) (peel E l) (round N E t (In l) (In (peel E l)) k a (peel_is E l))

  few_left : (l : List ℕ) (k : ℕ) → Left N E (In l) k → 1 ≤ length l → length l ≤ 2 → IsCentre N E (middle₁ l) (middle₂ l)
  unfolding middle₁ middle₂
  few_left [] k a h i = let z : ⊥ = omega arith in absurd z
  few_left (u ∷ []) k a h i = done N E t (In (u ∷ [])) k a u u (Memᴰ.head refl) (Memᴰ.head refl) (λ w m. inl (Memᴰ.eq_of_singleton m))
  few_left (u ∷ v ∷ []) k a h i = done N E t (In (u ∷ v ∷ [])) k a u v (Memᴰ.head refl) (Memᴰ.tail (Memᴰ.head refl))
      (λ w m. ⊎_elim inl (λ n. inr (Memᴰ.eq_of_singleton n)) (Memᴰ.cases_cons m))
  few_left (u ∷ v ∷ w ∷ l) k a h i = let z : ⊥ = omega arith in absurd z

  -- where n rounds leave one vertex, or two, the larger of their codes is the centred one
  peeled : (at : ℕ → List ℕ) (n : ℕ) → let l = left E n (up_to N) in 1 ≤ length l → length l ≤ 2 → Centred N E at (larger (at (middle₁ l)) (at (middle₂ l)))
  unfolding larger
  peeled at n h i =
      let l : List ℕ = left E n (up_to N) in
      let (k, a) = left_is n 0 (up_to N) (start N E (In (up_to N)) (in_up_to N) (up_to_in N)) in
      step (middle₁ l) (middle₂ l) (few_left l k a h i) (dec≽ (at (middle₁ l)) (at (middle₂ l)))
    where
      step : (u v : ℕ) → IsCentre N E u v → (d : Dec (at u ≽ at v)) → Centred N E at (ite d (at u) (at v))
      step u v z (yes g) = at_first z g
      step u v z (no g) = at_second z (below≽ (at u) (at v) g)

-- ---- the three in one

-- a skeleton, its centred code c by n rounds of peeling, and its N-tuple code d by trying every root
pub computed : (most R : ℕ) {N : ℕ} {E c d : List ℕ} (n : ℕ) (e : length E + 2 ≡ 2 * N) (l : Lower 2 E) →
    let rest = left E n (up_to N) in
    let tried = some_n_tuple N E (rooted N E) (lower_tree N E e l) in
    (N ≤ most) × (degree E tried.1.root ≤ R) × (1 ≤ length rest) × (length rest ≤ 2)
    → larger (rooted N E (middle₁ rest)) (rooted N E (middle₂ rest)) ≡ c → tried.0 ≡ d → IsSkeleton most R N E × IsCentred N E c × IsNTuple N E d
unfolding Degrees
computed most R {N} {E} n e l (few, k, one, two) p q =
    let t : IsTree N E = lower_tree N E e l in
    let top = (some_n_tuple N E (rooted N E) t).1 in (
      record { tree = t; few = few; degrees = λ v a b. omega (arith, top.maximum v a b) },
      rw p at (peeled N E t (rooted N E) n one two),
      rw q at top,
    )
