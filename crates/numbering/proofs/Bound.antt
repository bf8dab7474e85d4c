-- The pairs of marks looked at are at most R - 1 times N times the whole part of log2 N, where no vertex has more than R neighbours: with labels (`pairsₗ_bound`), and
-- for document 01's codes (`pairs_bound`). It is proved for every k with N < 2 ^ (k + 1). A part is small if it has fewer than 2 ^ k marks. The parts that hang at a
-- vertex have fewer than 2 * 2 ^ k in all, so at most one of them is not small, and two are compared in no more pairs than those of them that are small have marks. Each
-- of at most C + 1 parts is compared with at most C others: the pairs at the vertex are at most C for each mark of a small part. By induction a small part of s marks
-- takes C * s * (k - 1) for itself, which leaves C * s for these; one that is not small takes C * s * k. Here stands what rests on `insert_by` or `kids_of`; the rest is
-- in `specs.Bound`. Assumes nothing.
use Rattle.std.specs.Prelude.{◌≡◌, refl}
use Rattle.std.proofs.Math.Path.{ap, sym}
use Rattle.std.proofs.Common.{◌∙◌}
use Rattle.std.proofs.Math.Logic.{ite, if_pos, if_neg, Dec.not as dec_not}
use mathlib.Core.List.{List, [], ◌∷◌, map, filter, map-map, Memᴰ}
use Prim.Native.Nat.{ℕ, zero, suc, ◌+◌, ◌-◌, ◌*◌, ◌^◌, ◌≤◌, ◌<◌}
use Rattle.std.proofs.Math.Decide.{ℕ_discrete, dec_le, dec_lt}
use native.Mathlib.Omega.{arith}
use Rattle.std.proofs.Math.ListN.{length}
use Rattle.std.proofs.lemmas.List.{length-map}
use Rattle.digit_code.specs.document.Code.{sum}
use Rattle.skeleton.specs.document.Skeleton.{arcs, neighbours, degree, children, IsTree, Degrees, IsSkeleton}
use Rattle.skeleton.specs.Arcs.{near_arc}
use Rattle.skeleton.specs.Walks.{turn, arc_end}
use Rattle.skeleton.specs.document.Label.{Marks}
use Rattle.skeleton.specs.Base.{base}
use Rattle.numbering.specs.document.Order.{order_by}
use Rattle.numbering.specs.Order.{pairs_by}
use Rattle.numbering.specs.Sorted.{flatten_length}
use Rattle.numbering.proofs.Sorted.{sorted_length}
use Rattle.numbering.specs.document.Order.{mark_at, orderₗ}
use Rattle.numbering.specs.Numbers.{pairsₗ}
use Rattle.numbering.proofs.Numbers.{orderₗ-numbers}
use Rattle.numbering.specs.Pairs.{siblings-counted}
use Rattle.numbering.proofs.Pairs.{pairs-counted}
use Rattle.numbering.specs.document.Pairs.{digit_pairs, sibling_pairs, rooted_pairs, log2}
use Rattle.numbering.specs.Bound.{log2-whole}

-- two codes are compared in no more pairs than either has digits
digits_few : (c d : List ℕ) → (digit_pairs c d ≤ length c) × (digit_pairs c d ≤ length d)
unfolding digit_pairs
digits_few [] d = (omega arith, omega arith)
digits_few (x ∷ c) [] = (omega arith, omega arith)
digits_few (x ∷ c) (y ∷ d) = step (ℕ_discrete x y) (digits_few c d)
  where
    step : (e : Dec (x ≡ y)) → (digit_pairs c d ≤ length c) × (digit_pairs c d ≤ length d)
        → (suc (ite e (digit_pairs c d) 0) ≤ suc (length c)) × (suc (ite e (digit_pairs c d) 0) ≤ suc (length d))
    step (yes e) (h, k) = (omega arith, omega arith)
    step (no n) (h, k) = (omega arith, omega arith)

module _ (P : ℕ) where
  -- the size of a small part, 0 for one that is not small
  unfoldable small : ℕ → ℕ
  small s = ite (dec_lt s P) s 0

  is_small : (s : ℕ) → s < P → small s ≡ s
  unfolding small
  is_small s h = if_pos (dec_lt s P) h s 0

  not_small : (s : ℕ) → (s < P → ⊥) → small s ≡ 0
  unfolding small
  not_small s h = if_neg (dec_lt s P) h s 0

  -- the marks of the small ones of these parts
  unfoldable smalls : List (List ℕ) → ℕ
  smalls cs = sum (map (λ c. small (length c)) cs)

  -- two parts of s and t marks, compared in m pairs
  pair : (s t m : ℕ) → s + t < 2 * P → m ≤ s → m ≤ t → m ≤ small s + small t
  pair s t m h a b = step (dec_lt s P) (dec_lt t P)
    where
      step : Dec (s < P) → Dec (t < P) → m ≤ small s + small t
      step (yes l) d = omega (arith, is_small s l)
      step (no l) (yes k) = omega (arith, is_small t k)
      step (no l) (no k) = omega arith

  -- one against the others
  against : (m : ℕ) (c : List ℕ) (cs : List (List ℕ)) → length cs ≤ m → length c + sum (map length cs) < 2 * P → sum (map (digit_pairs c) cs) ≤ m * small (length c) + smalls cs
  unfolding sum smalls
  against m c [] h k = omega arith
  against zero c (d ∷ cs) h k = let z : ⊥ = omega arith in absurd z
  against (suc m) c (d ∷ cs) h k =
      let (i, j) = digits_few c d in
      omega (arith, pair (length c) (length d) (digit_pairs c d) (omega arith) i j, against m c cs (omega arith) (omega arith))

  -- every two of them
  among : (m : ℕ) (cs : List (List ℕ)) → length cs ≤ suc m → sum (map length cs) < 2 * P → sibling_pairs cs ≤ m * smalls cs
  unfolding sum smalls sibling_pairs
  among m [] h k = omega arith
  among m (c ∷ []) h k = omega arith
  among zero (c ∷ d ∷ cs) h k = let z : ⊥ = omega arith in absurd z
  among (suc m) (c ∷ d ∷ cs) h k = omega (arith, against (suc m) c (d ∷ cs) (omega arith) (omega arith), among m (d ∷ cs) (omega arith) (omega arith))

-- a part of s marks that takes t pairs for itself, and C for each of its marks if it is small
weigh : (C k s t : ℕ) → s < 2 ^ suc k → ((j : ℕ) → s < 2 ^ suc j → t ≤ C * (s * j)) → t + C * small (2 ^ k) s ≤ C * (s * k)
weigh C zero s t h b = step s h (b 0 h)
  where
    step : (s : ℕ) → s < 2 → t ≤ C * (s * 0) → t + C * small 1 s ≤ C * (s * 0)
    step zero h k = rw (is_small 1 0 (omega arith)) (omega arith)
    step (suc s) h k = rw (not_small 1 (suc s) (λ l. omega arith)) (omega arith)
weigh C (suc k) s t h b = step (dec_lt s (2 ^ suc k))
  where
    step : Dec (s < 2 ^ suc k) → t + C * small (2 ^ suc k) s ≤ C * (s * suc k)
    step (yes l) = rw (is_small (2 ^ suc k) s l) (omega (arith, b k l))
    step (no l) = rw (not_small (2 ^ suc k) s l) (omega (arith, b (suc k) h))

module _ (C k : ℕ) (c : ℕ → List ℕ) (t : ℕ → ℕ) where
  -- t keeps the bound at each of l
  abbrev Bounded : List ℕ → Type 0
  Bounded l = (w : ℕ) → Memᴰ w l → (j : ℕ) → length (c w) < 2 ^ suc j → t w ≤ C * (length (c w) * j)

  weighed : (l : List ℕ) → Bounded l → sum (map length (map c l)) < 2 ^ suc k → sum (map t l) + C * smalls (2 ^ k) (map c l) ≤ C * (sum (map length (map c l)) * k)
  unfolding sum smalls
  weighed [] b h = omega arith
  weighed (w ∷ l) b h =
      omega (arith, weigh C k (length (c w)) (t w) (omega arith) (b w (Memᴰ.head refl)), weighed l (λ x m. b x (Memᴰ.tail m)) (omega arith))

  at-vertex : (l : List ℕ) → Bounded l → length l ≤ suc C → suc (sum (map length (map c l))) < 2 ^ suc k
      → sibling_pairs (map c l) + sum (map t l) ≤ C * (suc (sum (map length (map c l))) * k)
  at-vertex l b f h = omega (arith, weighed l b (omega arith), among (2 ^ k) C (map c l) (omega (arith, length-map l c)) (omega arith))

module _ (m : ℕ → ℕ) (K : ℕ → ℕ → List ℕ) (C : ℕ) (few : (p v : ℕ) → length (K p v) ≤ suc C) where
  order_length : (n p v : ℕ) → length (order_by m K (suc n) p v) ≡ suc (sum (map length (map (λ w. map m (order_by m K n v w)) (K p v))))
  unfolding order_by
  order_length n p v =
      let ks : List ℕ = K p v in
      ap suc (
      sorted_length (map m) (map (order_by m K n v) ks)
      ∙ flatten_length (map (order_by m K n v) ks)
      ∙ ap sum (map-map length (order_by m K n v) ks ∙ (λ i. map (λ w. sym (length-map (order_by m K n v w) m) i) ks) ∙ sym (map-map length (λ w. map m (order_by m K n v w)) ks))
      )

  bounded : (n p v k : ℕ) → length (order_by m K n p v) < 2 ^ suc k → pairs_by m K n p v ≤ C * (length (order_by m K n p v) * k)
  unfolding pairs_by
  bounded zero p v k h = omega arith
  bounded (suc n) p v k h =
      let c : ℕ → List ℕ = λ w. map m (order_by m K n v w) in
      let below : Bounded C k c (pairs_by m K n v) (K p v) = λ w q j l. rw (length-map (order_by m K n v w) m) (bounded n v w j (rw (length-map (order_by m K n v w) m) at l)) in
      rw (order_length n p v, siblings-counted (map c (K p v)))
      (omega (arith, at-vertex C k c (pairs_by m K n v) (K p v) below (few p v) (rw (order_length n p v) at h)))

filter_length : {P : ℕ → Type 0} (d : (w : ℕ) → Dec (P w)) (l : List ℕ) → length (filter d l) ≤ length l
filter_length d [] = omega arith
filter_length {P} d (w ∷ l) = step (d w) (filter_length d l)
  where
    step : (x : Dec (P w)) → length (filter d l) ≤ length l → length (ite x (w ∷ filter d l) (filter d l)) ≤ suc (length l)
    step (yes q) h = omega arith
    step (no n) h = omega arith

nobody : (l : List ℕ) → ((w : ℕ) → Memᴰ w l → ⊥) → length l ≡ 0
nobody [] h = refl
nobody (w ∷ l) h = absurd (h w (Memᴰ.head refl))

module _ (R N : ℕ) (E : List ℕ) (t : IsTree N E) (d : Degrees R N E) where
  -- what is no vertex has no neighbours
  neighbours_few : (v : ℕ) → length (neighbours (arcs E) v) ≤ R
  unfolding Degrees degree
  neighbours_few v = step (dec_le 1 v) (dec_le v N)
    where
      stranger : ((1 ≤ v) × (v ≤ N) → ⊥) → length (neighbours (arcs E) v) ≤ R
      stranger n = omega (arith, nobody (neighbours (arcs E) v) (λ w h. n (t.inside v (arc_end E (turn E (near_arc (arcs E) v w h))))))

      step : Dec (1 ≤ v) → Dec (v ≤ N) → length (neighbours (arcs E) v) ≤ R
      step (yes a) (yes b) = d v a b
      step (yes a) (no b) = stranger (λ (x, y). b y)
      step (no a) b = stranger (λ (x, y). a x)

  children_few : (p v : ℕ) → length (children (arcs E) p v) ≤ suc (R - 1)
  unfolding children
  children_few p v = omega (arith, filter_length (λ w. dec_not (ℕ_discrete w p)) (neighbours (arcs E) v), neighbours_few v)

-- for every k with N below 2 ^ (k + 1)
pub pairsₗ_power : (M : Marks) (label : ℕ → M.Label) (R N : ℕ) (E : List ℕ) (r : ℕ) → IsTree N E → Degrees R N E → 1 ≤ r → r ≤ N
    → (k : ℕ) → N < 2 ^ suc k → pairsₗ M label N E r ≤ (R - 1) * (N * k)
unfolding pairsₗ orderₗ
pairsₗ_power M label R N E r t d a b k h =
    let e : length (order_by (mark_at M label E r) (children (arcs E)) N 0 r) ≡ N = (orderₗ-numbers M label N E r t a b).all in
    rw e at (bounded (mark_at M label E r) (children (arcs E)) (R - 1) (children_few R N E t d) N 0 r k (rw e h))

pub pairsₗ_bound : (M : Marks) (label : ℕ → M.Label) (R N : ℕ) (E : List ℕ) (r : ℕ) → IsTree N E → Degrees R N E → 1 ≤ r → r ≤ N
    → pairsₗ M label N E r ≤ (R - 1) * N * log2 N
pairsₗ_bound M label R N E r t d a b = omega (arith, pairsₗ_power M label R N E r t d a b (log2 N) (log2-whole N (omega arith)).1)

-- document 01's codes: the pairs of digits looked at are at most R - 1 times N times the whole part of log2 N
pub pairs_bound : (most R N : ℕ) (E : List ℕ) (r : ℕ) → IsSkeleton most R N E → 1 ≤ r → r ≤ N → rooted_pairs N E r ≤ (R - 1) * N * log2 N
pairs_bound most R N E r s a b = rw (← (pairs-counted N E r s.tree a b)) (pairsₗ_bound base (λ v. tt) R N E r s.tree s.degrees a b)
