-- How tall a forest is, and where a vertex stands in it: its parent, and how tall what hangs below it is. Assumes nothing.
use Rattle.std.specs.Prelude.{◌≡◌, ◌⊎◌, ℕ, suc, max, ◌≤◌}
use Rattle.std.proofs.Math.Path.{refl}
use Rattle.std.proofs.Common.{sym, ap}
use Rattle.std.proofs.Math.Logic.{inl, inr, ⊎_elim}
use mathlib.Core.List.Memᴰ
use mathlib.Core.List.{◌∷◌, ◌++◌, Memᴰ}
use Rattle.std.proofs.Math.Decide.{dec_le}
use native.Mathlib.Omega.{arith}
use Rattle.skeleton.specs.document.Skeleton.{Arc}
use Rattle.skeleton.specs.Forest.{Forest, none, tree, vertices, hung, Distinct}

-- the number of vertices on a longest way down
unfoldable pub tall : Forest → ℕ
tall none = 0
tall (tree x d f) = max (suc (tall d)) (tall f)

-- v stands in a forest under p: its parent is u, and what hangs below it is h tall
pub data Stands (v u h : ℕ) : ℕ → Forest → Type 0 where
  top : {p x : ℕ} {d f : Forest} → v ≡ x → u ≡ p → h ≡ tall d → Stands v u h p (tree x d f)
  below : {p x : ℕ} {d f : Forest} → Stands v u h x d → Stands v u h p (tree x d f)
  beside : {p x : ℕ} {d f : Forest} → Stands v u h p f → Stands v u h p (tree x d f)

module _ {v u h : ℕ} where
  pub stands_in : {p : ℕ} {f : Forest} → Stands v u h p f → Memᴰ v (vertices f)
  unfolding vertices
  stands_in (top e a b) = Memᴰ.head e
  stands_in (below {f = f} s) = Memᴰ.tail (Memᴰ.append_left (vertices f) (stands_in s))
  stands_in (beside {d = d} s) = Memᴰ.tail (Memᴰ.append_right (vertices d) (stands_in s))

  -- so is its parent, or the parent is p
  pub parent_in : {p : ℕ} {f : Forest} → Stands v u h p f → Memᴰ u (p ∷ vertices f)
  unfolding vertices
  parent_in (top e a b) = Memᴰ.head a
  parent_in (below {f = f} s) = Memᴰ.tail (Memᴰ.append_left (vertices f) (parent_in s))
  parent_in (beside {x = x} {d = d} s) = ⊎_elim Memᴰ.head (λ m. Memᴰ.tail (Memᴰ.append_right (x ∷ vertices d) m)) (Memᴰ.cases_cons (parent_in s))

  pub stands_arc : {p : ℕ} {f : Forest} → Stands v u h p f → Memᴰ (v, u) (hung p f)
  unfolding hung
  stands_arc (top e a b) = Memᴰ.tail (Memᴰ.head (λ i. (e i, a i)))
  stands_arc (below {p} {f = f} s) = Memᴰ.tail (Memᴰ.tail (Memᴰ.append_left (hung p f) (stands_arc s)))
  stands_arc (beside {x = x} {d = d} s) = Memᴰ.tail (Memᴰ.tail (Memᴰ.append_right (hung x d) (stands_arc s)))

  -- what hangs below it is lower than the forest
  pub lower : {p : ℕ} {f : Forest} → Stands v u h p f → suc h ≤ tall f
  unfolding tall
  lower (top e a b) = omega arith
  lower (below s) = omega (arith, lower s)
  lower (beside s) = omega (arith, lower s)

  -- its parent is p, or stands higher
  pub higher : {p : ℕ} {f : Forest} → Stands v u h p f → ((u ≡ p) × (suc h ≤ tall f)) ⊎ ((a : ℕ) × (b : ℕ) × Stands u a b p f × (suc h ≤ b))
  unfolding tall
  higher (top e a b) = inl (a, omega arith)
  higher (below {p} {d = d} s) = inr (⊎_elim (λ y. (p, tall d, top y.0 refl refl, y.1)) (λ z. (z.0, z.1, below z.2, z.3)) (higher s))
  higher (beside s) = ⊎_elim (λ y. inl (y.0, omega arith)) (λ z. inr (z.0, z.1, beside z.2, z.3)) (higher s)

-- every vertex stands somewhere
pub stands : (p : ℕ) (f : Forest) (v : ℕ) → Memᴰ v (vertices f) → (u : ℕ) × (h : ℕ) × Stands v u h p f
unfolding vertices
stands p none v m = absurd (Memᴰ.not-nil m)
stands p (tree x d f) v m = step (Memᴰ.cases_cons m) (stands x d v) (stands p f v)
  where
    Some : ℕ → Forest → Type 0
    Some q g = (u : ℕ) × (h : ℕ) × Stands v u h q g

    step : (v ≡ x) ⊎ Memᴰ v (vertices d ++ vertices f) → (Memᴰ v (vertices d) → Some x d) → (Memᴰ v (vertices f) → Some p f) → Some p (tree x d f)
    step (inl e) i j = (p, tall d, top e refl refl)
    step (inr n) i j = ⊎_elim (λ a. let (u, h, s) = i a in (u, h, below s)) (λ b. let (u, h, s) = j b in (u, h, beside s)) (Memᴰ.append_cases (vertices d) n)

-- and only there
pub one_place : {v u h a b : ℕ} {p : ℕ} {f : Forest} → Distinct f → Stands v u h p f → Stands v a b p f → (u ≡ a) × (h ≡ b)
unfolding vertices
one_place o (top e i j) (top f k l) = (cc, cc)
one_place o (top e i j) (below s) = absurd (o.0 (Memᴰ.cast (sym e) (stands_in s)))
one_place o (top e i j) (beside s) = absurd (o.1 (Memᴰ.cast (sym e) (stands_in s)))
one_place o (below r) (top e i j) = absurd (o.0 (Memᴰ.cast (sym e) (stands_in r)))
one_place o (below r) (below s) = one_place o.3 r s
one_place {v} o (below r) (beside s) = absurd (o.2 v (stands_in r) (stands_in s))
one_place o (beside r) (top e i j) = absurd (o.1 (Memᴰ.cast (sym e) (stands_in r)))
one_place {v} o (beside r) (below s) = absurd (o.2 v (stands_in s) (stands_in r))
one_place o (beside r) (beside s) = one_place o.4 r s

-- of two joined vertices one is the other's parent
pub arc_stands : (p : ℕ) (f : Forest) {v w : ℕ} → Memᴰ (v, w) (hung p f) → ((h : ℕ) × Stands v w h p f) ⊎ ((h : ℕ) × Stands w v h p f)
unfolding hung
arc_stands p none m = absurd (Memᴰ.not-nil m)
arc_stands p (tree x d f) (Memᴰ.head e) = inr (tall d, top (ap (λ (y : Arc). y.1) e) (ap (λ (y : Arc). y.0) e) refl)
arc_stands p (tree x d f) (Memᴰ.tail (Memᴰ.head e)) = inl (tall d, top (ap (λ (y : Arc). y.0) e) (ap (λ (y : Arc). y.1) e) refl)
arc_stands p (tree x d f) {v} {w} (Memᴰ.tail (Memᴰ.tail m)) =
    step (Memᴰ.append_cases (hung x d) m) (λ (i : Memᴰ (v, w) (hung x d)). arc_stands x d i) (λ (i : Memᴰ (v, w) (hung p f)). arc_stands p f i)
  where
    Some : ℕ → Forest → Type 0
    Some q g = ((h : ℕ) × Stands v w h q g) ⊎ ((h : ℕ) × Stands w v h q g)

    step : Memᴰ (v, w) (hung x d) ⊎ Memᴰ (v, w) (hung p f) → (Memᴰ (v, w) (hung x d) → Some x d) → (Memᴰ (v, w) (hung p f) → Some p f) → Some p (tree x d f)
    step (inl a) i j = ⊎_elim (λ s. inl (s.0, below s.1)) (λ s. inr (s.0, below s.1)) (i a)
    step (inr b) i j = ⊎_elim (λ s. inl (s.0, beside s.1)) (λ s. inr (s.0, beside s.1)) (j b)

-- where a forest is taller than k, below one of its roots hangs what is k tall
pub tallest : (p : ℕ) (f : Forest) (k : ℕ) → suc k ≤ tall f → (c : ℕ) × (h : ℕ) × Stands c p h p f × (k ≤ h)
unfolding tall
tallest p none k l = let z : ⊥ = omega arith in absurd z
tallest p (tree x d f) k l = step (dec_le k (tall d)) (tallest p f k)
  where
    Some : Forest → Type 0
    Some g = (c : ℕ) × (h : ℕ) × Stands c p h p g × (k ≤ h)

    step : Dec (k ≤ tall d) → (suc k ≤ tall f → Some f) → Some (tree x d f)
    step (yes i) r = (x, tall d, top refl refl refl, i)
    step (no n) r = let (c, h, s, i) = r (omega arith) in (c, h, beside s, i)

-- and where what hangs below a vertex is taller than k, below one of its children
pub child : {v u h p : ℕ} {f : Forest} (k : ℕ) → Stands v u h p f → suc k ≤ h → (c : ℕ) × (m : ℕ) × Stands c v m p f × (k ≤ m)
child k (top {x = x} {d = d} e a b) l = let (c, m, s, i) = tallest x d k (omega arith) in (c, m, below {x = x} {d = d} (rw e s), i)
child k (below s) l = let (c, m, r, i) = child k s l in (c, m, below r, i)
child k (beside s) l = let (c, m, r, i) = child k s l in (c, m, beside r, i)
