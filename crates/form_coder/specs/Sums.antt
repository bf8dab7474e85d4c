-- The pairs of digits looked at for the centred and the N-tuple code: they are one number, and at most R - 1 times N times the whole part of log2 N
-- for each root, where no vertex has more than R neighbours.
--
-- In order: one sum over the middles, and its bound; one sum over the vertices of maximum degree, and its bound; of the two codes; how many roots
-- there are. Assumes nothing.
use Rattle.std.specs.Prelude.{◌≡◌, ◌⊎◌, List}
use Rattle.std.proofs.Math.Path.{refl, ap₂}
use Rattle.std.proofs.Common.{sym, ap, ◌∙◌, inl, inr, arith}
use Rattle.std.proofs.Math.Logic.{ite}
use Prim.Native.Nat.{ℕ, zero, suc, ◌+◌, ◌-◌, ◌*◌, ◌^◌, ◌≤◌, ◌<◌}
use Rattle.std.proofs.Math.Decide.{ℕ_discrete}
use Rattle.limits.specs.document.Limits.{size}
use Rattle.limits.specs.Width.{width}
use Rattle.skeleton.specs.document.Skeleton.{degree, IsTree, IsSkeleton}
use Rattle.longest_path.specs.Theorems.{one-centre, centre_inside}
use Rattle.numbering.specs.document.Pairs.{rooted_pairs, log2}
use Rattle.skeleton.specs.Base.{base}
use Rattle.skeleton.specs.document.Atom.{Atom}
use Rattle.skeleton.specs.document.AtomMarks.{atoms}
use Rattle.skeleton.specs.Carbon.{carbon}
use Rattle.numbering.specs.Numbers.{pairsₗ}
use Rattle.numbering.proofs.Rewritten.{carbon-counted}
use Rattle.numbering.proofs.Pairs.{pairs-counted}
use Rattle.numbering.proofs.Bound.{pairs_bound, pairsₗ_power}
use Rattle.form.specs.Forms.{n_tuple-form, centred-form}
use Rattle.form_coder.specs.document.Pairs.{OverMiddles, of_degree, OverWidest, CentredPairs, NTuplePairs, CentredRoots, NTupleRoots}

-- ---- over the middles

-- the number at u, and at v where that is another
abbrev at_both : (ℕ → ℕ) → ℕ → ℕ → ℕ
at_both at u v = ite (ℕ_discrete u v) (at u) (at u + at v)

both_swap : (at : ℕ → ℕ) (u v : ℕ) → at_both at u v ≡ at_both at v u
both_swap at u v = step (ℕ_discrete u v) (ℕ_discrete v u)
  where
    step : (d : Dec (u ≡ v)) (e : Dec (v ≡ u)) → ite d (at u) (at u + at v) ≡ ite e (at v) (at v + at u)
    step (yes p) (yes q) = ap at p
    step (yes p) (no q) = absurd (q (sym p))
    step (no p) (yes q) = absurd (p (sym q))
    step (no p) (no q) = omega arith

pub one-over-middles : {N : ℕ} {E : List ℕ} {at : ℕ → ℕ} {n m : ℕ} → IsTree N E → OverMiddles N E at n → OverMiddles N E at m → n ≡ m
one-over-middles {N} {E} {at} {n} {m} t x y =
    x.is ∙ which (one-centre N E t x.first x.second y.first y.second x.centre y.centre) ∙ sym y.is
  where
    which : ((y.first ≡ x.first) × (y.second ≡ x.second)) ⊎ ((y.first ≡ x.second) × (y.second ≡ x.first))
        → at_both at x.first x.second ≡ at_both at y.first y.second
    which (inl (e, f)) = sym (ap₂ (at_both at) e f)
    which (inr (e, f)) = both_swap at x.first x.second ∙ sym (ap₂ (at_both at) e f)

-- B bounds the number at each vertex
pub over-middles_bound :
    {N : ℕ} {E : List ℕ} {at : ℕ → ℕ} {B n k : ℕ} → IsTree N E → ((v : ℕ) → 1 ≤ v → v ≤ N → at v ≤ B)
    → OverMiddles N E at n → OverMiddles N E (λ v. 1) k → n ≤ k * B
over-middles_bound {N} {E} {at} {B} {n} {k} t b x y =
    let u : ℕ = x.first in
    let v : ℕ = x.second in
    let z : OverMiddles N E (λ w. 1) (ite (ℕ_discrete u v) 1 2) = record { first = u; second = v; centre = x.centre; is = refl } in
    let e : k ≡ ite (ℕ_discrete u v) 1 2 = one-over-middles {at = λ w. 1} t y z in
    let ((g, h), (i, j)) = centre_inside N E t u v x.centre in
    rw (x.is, e) (step u v (ℕ_discrete u v) (b u g h) (b v i j))
  where
    step : (u v : ℕ) (d : Dec (u ≡ v)) → at u ≤ B → at v ≤ B → ite d (at u) (at u + at v) ≤ ite d 1 2 * B
    step u v (yes p) g h = omega arith
    step u v (no p) g h = omega arith

-- there are two at most
over-middles_twice : {N : ℕ} {E : List ℕ} {at : ℕ → ℕ} {B n : ℕ} → IsTree N E → ((v : ℕ) → 1 ≤ v → v ≤ N → at v ≤ B) → OverMiddles N E at n → n ≤ 2 * B
over-middles_twice {N} {E} {at} {B} t b x =
    let u : ℕ = x.first in
    let v : ℕ = x.second in
    let ((g, h), (i, j)) = centre_inside N E t u v x.centre in
    rw x.is (step (ℕ_discrete u v) (b u g h) (b v i j))
  where
    step : {u v : ℕ} (d : Dec (u ≡ v)) → at u ≤ B → at v ≤ B → ite d (at u) (at u + at v) ≤ 2 * B
    step (yes p) g h = omega arith
    step (no p) g h = omega arith

-- ---- over the vertices of maximum degree

pub one-over-widest : {N : ℕ} {E : List ℕ} {at : ℕ → ℕ} {n m : ℕ} → OverWidest N E at n → OverWidest N E at m → n ≡ m
one-over-widest {N} {E} {at} {n} {m} x y =
    let (a, b) = x.inside in
    let (g, h) = y.inside in
    let e : degree E x.root ≡ degree E y.root = omega (arith, x.maximum y.root g h, y.maximum x.root a b) in
    x.is ∙ ap (λ d. of_degree E at d N) e ∙ sym y.is

-- up to v
pub of_degree_bound :
    (N : ℕ) (E : List ℕ) (at : ℕ → ℕ) (B d v : ℕ) → ((u : ℕ) → 1 ≤ u → u ≤ N → at u ≤ B) → v ≤ N → of_degree E at d v ≤ of_degree E (λ u. 1) d v * B
unfolding of_degree
of_degree_bound N E at B d zero b h = omega arith
of_degree_bound N E at B d (suc v) b h = step (ℕ_discrete (degree E (suc v)) d) (b (suc v) (omega arith) h) (of_degree_bound N E at B d v b (omega arith))
  where
    step : (e : Dec (degree E (suc v) ≡ d)) → at (suc v) ≤ B → of_degree E at d v ≤ of_degree E (λ u. 1) d v * B
        → of_degree E at d v + ite e (at (suc v)) 0 ≤ (of_degree E (λ u. 1) d v + ite e 1 0) * B
    step (yes p) g k = omega arith
    step (no p) g k = omega arith

pub over-widest_bound :
    {N : ℕ} {E : List ℕ} {at : ℕ → ℕ} {B n k : ℕ} → ((v : ℕ) → 1 ≤ v → v ≤ N → at v ≤ B)
    → OverWidest N E at n → OverWidest N E (λ v. 1) k → n ≤ k * B
over-widest_bound {N} {E} {at} {B} {n} {k} b x y =
    let z : OverWidest N E (λ v. 1) (of_degree E (λ v. 1) (degree E x.root) N) = record { root = x.root; inside = x.inside; maximum = x.maximum; is = refl } in
    rw (x.is, one-over-widest {at = λ v. 1} y z) (of_degree_bound N E at B (degree E x.root) N b (omega arith))

-- ---- of the two codes

-- there are one or two middles
pub few_middles : (N : ℕ) (E : List ℕ) (k : ℕ) → CentredRoots N E k → (1 ≤ k) × (k ≤ 2)
few_middles N E k x = rw x.is (step (ℕ_discrete x.first x.second))
  where
    step : (d : Dec (x.first ≡ x.second)) → (1 ≤ ite d 1 2) × (ite d 1 2 ≤ 2)
    step (yes p) = (omega arith, omega arith)
    step (no p) = (omega arith, omega arith)

module _ (most R N : ℕ) (E : List ℕ) (s : IsSkeleton most R N E) (n k : ℕ) where
  pub centred_bound : CentredPairs N E n → CentredRoots N E k → n ≤ k * ((R - 1) * N * log2 N)
  centred_bound x y = over-middles_bound s.tree (λ v a b. pairs_bound most R N E v s a b) x y

  pub n_tuple_bound : NTuplePairs N E n → NTupleRoots N E k → n ≤ k * ((R - 1) * N * log2 N)
  n_tuple_bound x y = over-widest_bound (λ v a b. pairs_bound most R N E v s a b) x y

-- for every j with N below 2 ^ (j + 1), as programs ask whether a sum fits
module _ (most R N : ℕ) (E : List ℕ) (s : IsSkeleton most R N E) (j : ℕ) (h : N < 2 ^ suc j) where
  pub pairs_power : (r : ℕ) → 1 ≤ r → r ≤ N → rooted_pairs N E r ≤ (R - 1) * (N * j)
  pairs_power r a b = rw (← (pairs-counted N E r s.tree a b)) (pairsₗ_power base (λ v. tt) R N E r s.tree s.degrees a b j h)

  pub centred_power : (n : ℕ) → CentredPairs N E n → n ≤ 2 * ((R - 1) * (N * j))
  centred_power n x = over-middles_twice s.tree pairs_power x

-- of a skeleton that the code takes
pub centred_few : {N n : ℕ} {E : List ℕ} → IsSkeleton size width N E → CentredPairs N E n → n ≤ 2 * (size * size)
centred_few {N} {n} {E} s x = omega (arith, centred_power size width N E s 6 (omega (arith, s.few)) n x, s.few)

-- with atoms
module _ {N : ℕ} {E : List ℕ} (s : IsSkeleton size width N E) (label : ℕ → Atom) where
  pub marks-at : (r : ℕ) → 1 ≤ r → r ≤ N → pairsₗ atoms label N E r ≤ size * size
  marks-at r h k = omega (arith, pairsₗ_power atoms label width N E r s.tree s.degrees h k 6 (omega (arith, s.few)), s.few)

  pub marks_few : {n : ℕ} → OverMiddles N E (pairsₗ atoms label N E) n → n ≤ 2 * (size * size)
  marks_few x = over-middles_twice s.tree marks-at x

-- ---- sums of the same numbers

module _ {N : ℕ} {E : List ℕ} (t : IsTree N E) (at to : ℕ → ℕ) (same : (v : ℕ) → 1 ≤ v → v ≤ N → at v ≡ to v) where
  pub middles-same : {n : ℕ} → OverMiddles N E at n → OverMiddles N E to n
  middles-same x =
      let u : ℕ = x.first in
      let v : ℕ = x.second in
      let ((a, b), (c, d)) = centre_inside N E t u v x.centre in
      record { first = u; second = v; centre = x.centre; is = x.is ∙ ap₂ (λ i j. ite (ℕ_discrete u v) i (i + j)) (same u a b) (same v c d) }

  of_degree-same : (d v : ℕ) → v ≤ N → of_degree E at d v ≡ of_degree E to d v
  unfolding of_degree
  of_degree-same d zero h = refl
  of_degree-same d (suc v) h =
      ap₂ (λ i j. i + ite (ℕ_discrete (degree E (suc v)) d) j 0) (of_degree-same d v (omega arith)) (same (suc v) (omega arith) h)

  pub widest-same : {n : ℕ} → OverWidest N E at n → OverWidest N E to n
  widest-same x = record { root = x.root; inside = x.inside; maximum = x.maximum; is = x.is ∙ of_degree-same (degree E x.root) N (omega arith) }

-- where every vertex is carbon
module _ {N : ℕ} {E : List ℕ} (t : IsTree N E) where
  pub middles-carbon : {n : ℕ} → OverMiddles N E (pairsₗ atoms carbon N E) n → CentredPairs N E n
  middles-carbon = middles-same t (pairsₗ atoms carbon N E) (rooted_pairs N E) (λ v a b. carbon-counted N E v t a b)

  pub widest-carbon : {n : ℕ} → OverWidest N E (pairsₗ atoms carbon N E) n → NTuplePairs N E n
  widest-carbon = widest-same t (pairsₗ atoms carbon N E) (rooted_pairs N E) (λ v a b. carbon-counted N E v t a b)

-- ---- how many roots

-- there are at most as many vertices of maximum degree as vertices
few_of_degree : (E : List ℕ) (v d : ℕ) → of_degree E (λ u. 1) d v ≤ v
unfolding of_degree
few_of_degree E zero d = omega arith
few_of_degree E (suc v) d = step (ℕ_discrete (degree E (suc v)) d) (few_of_degree E v d)
  where
    step : (e : Dec (degree E (suc v) ≡ d)) → of_degree E (λ u. 1) d v ≤ v → of_degree E (λ u. 1) d v + ite e 1 0 ≤ suc v
    step (yes p) g = omega arith
    step (no p) g = omega arith

pub few_widest : (N : ℕ) (E : List ℕ) (k : ℕ) → NTupleRoots N E k → k ≤ N
few_widest N E k x = rw x.is (few_of_degree E N (degree E x.root))

-- a tree has middles, and vertices of maximum degree
pub some_middles : (N : ℕ) (E : List ℕ) → IsTree N E → (k : ℕ) × CentredRoots N E k
some_middles N E t = let (c, x) = centred-form.some N E t in (_, record { first = x.first; second = x.second; centre = x.centre; is = refl })

pub some_widest : (N : ℕ) (E : List ℕ) → IsTree N E → (k : ℕ) × NTupleRoots N E k
some_widest N E t = let (c, x) = n_tuple-form.some N E t in (_, record { root = x.root; inside = x.inside; maximum = x.maximum; is = refl })
