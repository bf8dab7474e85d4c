-- The numbering that goes from vertex to vertex, of an equivalence, is by first appearance, and it is the only one that is.
--
-- In order: the greatest number; which class a vertex is given; the numbering, places counted from 0; that there is one. What by first
-- appearance means is in `Numbering`, the numbering in `Found`. Assumes nothing.
use Rattle.std.specs.Prelude.{◌≡◌, ◌↔◌, length, get_or}
use Rattle.std.proofs.Math.Path.{refl}
use Rattle.std.proofs.Common.{sym, ap, ◌∙◌, subst, ext_get_or}
use Rattle.std.proofs.Math.Logic.{ite}
use mathlib.Core.List.{List, [], ◌∷◌, ◌++◌}
use Prim.Native.Nat.{ℕ, zero, suc, ◌+◌, ◌-◌, max, ◌≤◌, ◌<◌}
use Rattle.std.proofs.Math.Decide.{dec_lt}
use native.Mathlib.Omega.{arith}
use Rattle.std.proofs.Math.ListN.{length-append, get_or-append}
use Rattle.std.proofs.lemmas.List.{get_or_at}
use Rattle.orbits.specs.document.Numbering.{class, ByAppearance}
use Rattle.orbits.specs.Found.{greatest, class_of, numbering}

-- ---- the greatest number

-- a number put behind
pub greatest-more : (l : List ℕ) (k : ℕ) → greatest (l ++ (k ∷ [])) ≡ max (greatest l) k
unfolding greatest
greatest-more [] k = omega arith
greatest-more (x ∷ l) k = omega (arith, greatest-more l k)

-- none is above it
greatest-above : (l : List ℕ) (i : ℕ) → get_or l i 0 ≤ greatest l
unfolding greatest
greatest-above [] i = omega arith
greatest-above (x ∷ l) zero = omega arith
greatest-above (x ∷ l) (suc i) = omega (arith, greatest-above l i)

-- ---- which class a vertex is given

-- that of a vertex which R joins to v, of those from u on, or the new one where there is none
data Finds (R : ℕ → ℕ → Type 0) (v new u : ℕ) (l : List ℕ) : ℕ → Type 0 where
  old : (j : ℕ) → j < length l → R (u + j) v → Finds R v new u l (get_or l j 0)
  none : ((j : ℕ) → j < length l → R (u + j) v → ⊥) → Finds R v new u l new

module _ {R : ℕ → ℕ → Type 0} (R? : (u v : ℕ) → Dec (R u v)) where
  finds : (v new u : ℕ) (l : List ℕ) → Finds R v new u l (class_of R? v new u l)
  unfolding class_of
  finds v new u [] = none (λ j h. let z : ⊥ = omega arith in absurd z)
  finds v new u (k ∷ l) = step (R? u v) (finds v new (suc u) l)
    where
      past : (j : ℕ) → u + suc j ≡ suc u + j
      past j = omega arith

      step : (d : Dec (R u v)) {x : ℕ} → Finds R v new (suc u) l x → Finds R v new u (k ∷ l) (ite d k x)
      step (yes r) f = old 0 (omega arith) (subst (λ (w : ℕ). R w v) (omega arith) r)
      step (no n) (old j h r) = old (suc j) (omega arith) (subst (λ (w : ℕ). R w v) (sym (past j)) r)
      step (no n) (none f) = none before
        where
          before : (j : ℕ) → j < suc (length l) → R (u + j) v → ⊥
          before zero h r = n (subst (λ (w : ℕ). R w v) (omega arith) r)
          before (suc j) h r = f j (omega arith) (subst (λ (w : ℕ). R w v) (past j) r)

  -- it is at most the next number
  pub class_most : (v u : ℕ) (l : List ℕ) → class_of R? v (suc (greatest l)) u l ≤ suc (greatest l)
  class_most v u l = at (finds v (suc (greatest l)) u l)
    where
      at : {x : ℕ} → Finds R v (suc (greatest l)) u l x → x ≤ suc (greatest l)
      at (old j h r) = omega (arith, greatest-above l j)
      at (none f) = omega arith

  pub numbering_length : (n : ℕ) → length (numbering R? n) ≡ n
  unfolding numbering
  numbering_length zero = refl
  numbering_length (suc n) = omega (arith, length-append (numbering R? n) (class_of R? (suc n) (suc (greatest (numbering R? n))) 1 (numbering R? n) ∷ []), numbering_length n)

-- ---- the numbering, places counted from 0

-- what a numbering of the first n vertices keeps
record Placed (R : ℕ → ℕ → Type 0) (n : ℕ) (l : List ℕ) : Type 0 where
  count : length l ≡ n
  alike : (i j : ℕ) → i < n → j < n → (get_or l i 0 ≡ get_or l j 0) ↔ R (suc i) (suc j)
  low : (i : ℕ) → i < n → 1 ≤ get_or l i 0
  met : (k : ℕ) → 1 ≤ k → k ≤ greatest l → (i : ℕ) × (i < n) × (get_or l i 0 ≡ k)
  first : (i k : ℕ) → i < n → 1 ≤ k → k < get_or l i 0 → (j : ℕ) × (j < i) × (get_or l j 0 ≡ k)

-- said of vertices, which count from 1
from_places : {R : ℕ → ℕ → Type 0} {N : ℕ} {l : List ℕ} → Placed R N l → ByAppearance R N l
from_places {R} {N} {l} p =
    record {
      count = p.count;
      alike = λ u v a b c d. subst (λ (x : ℕ). (class l u ≡ class l v) ↔ R u x) (up v c) (subst (λ (x : ℕ). (class l u ≡ class l v) ↔ R x (suc (v - 1))) (up u a) (p.alike (u - 1) (v - 1) (omega arith) (omega arith)));
      from_one = λ v a b. p.low (v - 1) (omega arith);
      lower-first = λ v k a b c d. let (j, g, e) = p.first (v - 1) k (omega arith) c d in (suc j, omega arith, omega arith, ap (λ (x : ℕ). get_or l x 0) (down j) ∙ e);
    }
  where
    up : (v : ℕ) → 1 ≤ v → suc (v - 1) ≡ v
    up v h = omega arith

    down : (j : ℕ) → suc j - 1 ≡ j
    down j = omega arith

-- x may be the next
record Next (R : ℕ → ℕ → Type 0) (n : ℕ) (l : List ℕ) (x : ℕ) : Type 0 where
  alike : (i : ℕ) → i < n → (get_or l i 0 ≡ x) ↔ R (suc i) (suc n)
  low : 1 ≤ x
  most : x ≤ suc (greatest l)

module _
    {R : ℕ → ℕ → Type 0}
    (same : (u : ℕ) → R u u)
    (turn : (u v : ℕ) → R u v → R v u)
    (join : (u v w : ℕ) → R u v → R v w → R u w)
  where
    found : {n : ℕ} {l : List ℕ} {x : ℕ} → Placed R n l → Finds R (suc n) (suc (greatest l)) 1 l x → Next R n l x
    found {n} {l = l} p (old j h r) =
        let e : 1 + j ≡ suc j = omega arith in
        let r' : R (suc j) (suc n) = subst (λ (w : ℕ). R w (suc n)) e r in
        let k : j < n = omega (arith, p.count) in
        record {
          alike = λ i m. (
            λ q. join (suc i) (suc j) (suc n) ((p.alike i j m k).0 q) r',
            λ s. (p.alike i j m k).1 (join (suc i) (suc n) (suc j) s (turn (suc j) (suc n) r')),
          );
          low = p.low j k;
          most = omega (arith, greatest-above l j);
        }
    found {n} {l = l} p (none f) =
        record {
          alike = λ i m. (
            λ q. absurd (let z : ⊥ = omega (arith, greatest-above l i) in z),
            λ s. absurd (f i (omega (arith, p.count)) (subst (λ (w : ℕ). R w (suc n)) (omega arith) s)),
          );
          low = omega arith;
          most = omega arith;
        }

    module _ {n x : ℕ} {l : List ℕ} (p : Placed R n l) (t : Next R n l x) where
      at_old : (i : ℕ) → i < n → get_or (l ++ (x ∷ [])) i 0 ≡ get_or l i 0
      at_old i h = get_or-append l (x ∷ []) 0 i (omega (arith, p.count))

      at_new : get_or (l ++ (x ∷ [])) n 0 ≡ x
      at_new = get_or_at l x [] 0 n p.count

      -- places up to n are those below, and n
      split : (P : ℕ → Type 0) → ((i : ℕ) → i < n → P i) → P n → (i : ℕ) → i < suc n → P i
      split P f g i h = go (dec_lt i n)
        where
          go : Dec (i < n) → P i
          go (yes k) = f i k
          go (no k) = subst P (omega arith) g

      alike-below : (i : ℕ) → i < n → (j : ℕ) → j < suc n → (get_or (l ++ (x ∷ [])) i 0 ≡ get_or (l ++ (x ∷ [])) j 0) ↔ R (suc i) (suc j)
      alike-below i h =
          split (λ j. (get_or (l ++ (x ∷ [])) i 0 ≡ get_or (l ++ (x ∷ [])) j 0) ↔ R (suc i) (suc j))
          (λ j k. rw (at_old i h, at_old j k) (p.alike i j h k))
          (rw (at_old i h, at_new) (t.alike i h))

      alike-last : (j : ℕ) → j < suc n → (get_or (l ++ (x ∷ [])) n 0 ≡ get_or (l ++ (x ∷ [])) j 0) ↔ R (suc n) (suc j)
      alike-last =
          split (λ j. (get_or (l ++ (x ∷ [])) n 0 ≡ get_or (l ++ (x ∷ [])) j 0) ↔ R (suc n) (suc j))
          (λ j k. let a = alike-below j k n (omega arith) in (λ e. turn (suc j) (suc n) (a.0 (sym e)), λ r. sym (a.1 (turn (suc n) (suc j) r))))
          (λ e. same (suc n), λ r. refl)

      met-more : (k : ℕ) → 1 ≤ k → k ≤ greatest (l ++ (x ∷ [])) → (i : ℕ) × (i < suc n) × (get_or (l ++ (x ∷ [])) i 0 ≡ k)
      met-more k h m = go (dec_lt (greatest l) k)
        where
          go : Dec (greatest l < k) → (i : ℕ) × (i < suc n) × (get_or (l ++ (x ∷ [])) i 0 ≡ k)
          go (yes g) = (n, omega arith, omega (arith, at_new, greatest-more l x, t.most))
          go (no g) = let (i, a, e) = p.met k h (omega arith) in (i, omega arith, at_old i a ∙ e)

      placed_more : Placed R (suc n) (l ++ (x ∷ []))
      placed_more =
          record {
            count = omega (arith, length-append l (x ∷ []), p.count);
            alike = λ i j h k. split (λ a. (get_or (l ++ (x ∷ [])) a 0 ≡ get_or (l ++ (x ∷ [])) j 0) ↔ R (suc a) (suc j)) (λ a m. alike-below a m j k) (alike-last j k) i h;
            low = split (λ i. 1 ≤ get_or (l ++ (x ∷ [])) i 0) (λ i h. omega (arith, at_old i h, p.low i h)) (omega (arith, at_new, t.low));
            met = met-more;
            first = λ i k h.
                split (λ a. 1 ≤ k → k < get_or (l ++ (x ∷ [])) a 0 → (j : ℕ) × (j < a) × (get_or (l ++ (x ∷ [])) j 0 ≡ k))
                (λ a m b c. let (j, d, e) = p.first a k m b (omega (arith, at_old a m)) in (j, d, at_old j (omega arith) ∙ e))
                (λ b c. let (j, d, e) = p.met k b (omega (arith, at_new, t.most)) in (j, d, at_old j d ∙ e))
                i
                h;
          }

    placed : (R? : (u v : ℕ) → Dec (R u v)) (n : ℕ) → Placed R n (numbering R? n)
    unfolding numbering
    placed R? zero =
        record {
          count = refl;
          alike = λ i j h. let z : ⊥ = omega arith in absurd z;
          low = λ i h. let z : ⊥ = omega arith in absurd z;
          met = λ k h g. let z : ⊥ = none_above k h g in absurd z;
          first = λ i k h. let z : ⊥ = omega arith in absurd z;
        }
      where
        none_above : (k : ℕ) → 1 ≤ k → k ≤ greatest [] → ⊥
        none_above k h g = unfold greatest in omega arith
    placed R? (suc n) = let p = placed R? n in placed_more p (found p (finds R? (suc n) (suc (greatest (numbering R? n))) 1 (numbering R? n)))

    -- the numbering is by first appearance
    pub numbering_is : (R? : (u v : ℕ) → Dec (R u v)) (N : ℕ) → ByAppearance R N (numbering R? N)
    numbering_is R? N = from_places (placed R? N)

-- ---- there is one

-- the first vertex is in class 1
pub first-class : {R : ℕ → ℕ → Type 0} {N : ℕ} {l : List ℕ} → ByAppearance R N l → 1 ≤ N → class l 1 ≡ 1
first-class {N = N} {l} b h = go (dec_lt 1 (class l 1))
  where
    go : Dec (1 < class l 1) → class l 1 ≡ 1
    go (yes g) = let (u, a, c, e) = b.lower-first 1 1 (omega arith) h (omega arith) g in absurd (let z : ⊥ = omega arith in z)
    go (no n) = omega (arith, b.from_one 1 (omega arith) h)

module _ {R : ℕ → ℕ → Type 0} {N : ℕ} where
  -- of two numberings that agree before vertex v, neither has there a lower number than the other
  not_lower :
      {l m : List ℕ} → ByAppearance R N l → ByAppearance R N m → (v : ℕ) → 1 ≤ v → v ≤ N → ((u : ℕ) → 1 ≤ u → u < v → class l u ≡ class m u)
      → class l v < class m v → ⊥
  not_lower {l} {m} a b v h k f g =
      let (u, c, d, e) = b.lower-first v (class l v) h k (a.from_one v h k) g in
      let r : R u v = (a.alike u v c (omega arith) h k).0 (f u c d ∙ e) in
      let q : class m u ≡ class m v = (b.alike u v c (omega arith) h k).1 r in
      omega arith

  agree : {l m : List ℕ} → ByAppearance R N l → ByAppearance R N m → (n : ℕ) → n ≤ N → (v : ℕ) → 1 ≤ v → v ≤ n → class l v ≡ class m v
  agree a b zero h v c d = let z : ⊥ = omega arith in absurd z
  agree {l} {m} a b (suc n) h v c d = go (dec_lt v (suc n)) (agree a b n (omega arith))
    where
      go : Dec (v < suc n) → ((u : ℕ) → 1 ≤ u → u ≤ n → class l u ≡ class m u) → class l v ≡ class m v
      go (yes s) f = f v c (omega arith)
      go (no s) f =
          let x : class l v < class m v → ⊥ = not_lower a b v c (omega arith) (λ u i j. f u i (omega arith)) in
          let y : class m v < class l v → ⊥ = not_lower b a v c (omega arith) (λ u i j. sym (f u i (omega arith))) in
          omega arith

  pub one-numbering : {l m : List ℕ} → ByAppearance R N l → ByAppearance R N m → l ≡ m
  one-numbering {l} {m} a b =
      ext_get_or 0 l m (a.count ∙ sym b.count)
      (λ i h. let e : suc i - 1 ≡ i = omega arith in
      subst (λ (x : ℕ). get_or l x 0 ≡ get_or m x 0) e (agree a b N (omega arith) (suc i) (omega arith) (omega (arith, a.count))))
