-- A tree has one N-tuple code and one centred code: not two, and then not none. Every `at`, the code at each root, will do. What the two
-- are is in `Form`. Assumes nothing.
use Rattle.std.specs.Prelude.{◌≡◌, refl, ◌⊎◌, List, ◌∷◌, ℕ, zero, suc, ◌≤◌}
use Rattle.std.proofs.Common.{inl, inr, ⊎_elim, arith}
use Rattle.std.proofs.Math.Decide.{ℕ_discrete}
use Rattle.laws.specs.document.Order.{◌≽◌, dec≽}
use Rattle.laws.specs.Sorting.{refl≽, total≽, trans≽, antisym≽, below≽}
use Rattle.skeleton.specs.document.Skeleton.{degree, IsTree}
use Rattle.longest_path.specs.document.Path.{middle₁, middle₂, IsCentre}
use Rattle.longest_path.specs.Theorems.{there_is_one, one-centre}
use Rattle.form.specs.document.Form.{NTuple, Centred}

-- ---- not two

module _ {N : ℕ} {E : List ℕ} {at : ℕ → List ℕ} {c d : List ℕ} where
  top_above : NTuple N E at c → NTuple N E at d → c ≽ d
  top_above x y =
      let (a, b) = y.inside in
      let (g, h) = x.inside in
      rw y.is (x.largest y.root a b (omega (arith, x.maximum y.root a b, y.maximum x.root g h)))

  centre-above : IsTree N E → Centred N E at c → Centred N E at d → c ≽ d
  centre-above t x y = which (one-centre N E t x.first x.second y.first y.second x.centre y.centre)
    where
      below : c ≽ at y.first → c ≽ at y.second → c ≽ d
      below f s = ⊎_elim (λ e. rw e f) (λ e. rw e s) y.either

      which : ((y.first ≡ x.first) × (y.second ≡ x.second)) ⊎ ((y.first ≡ x.second) × (y.second ≡ x.first)) → c ≽ d
      which (inl (e, f)) = below (rw e x.above-first) (rw f x.above-second)
      which (inr (e, f)) = below (rw e x.above-second) (rw f x.above-first)

module _ {N : ℕ} {E : List ℕ} {at : ℕ → List ℕ} {c d : List ℕ} where
  pub one-n_tuple : IsTree N E → NTuple N E at c → NTuple N E at d → c ≡ d
  one-n_tuple t x y = antisym≽ c d (top_above x y) (top_above y x)

  pub one-centred : IsTree N E → Centred N E at c → Centred N E at d → c ≡ d
  one-centred t x y = antisym≽ c d (centre-above t x y) (centre-above t y x)

-- ---- not none

-- of the vertices 1 to n, one of the largest key
unfoldable pub largest : (key : ℕ → List ℕ) (n : ℕ) → 1 ≤ n → (r : ℕ) × ((1 ≤ r) × (r ≤ n)) × ((v : ℕ) → 1 ≤ v → v ≤ n → key r ≽ key v)
largest key zero h = let z : ⊥ = omega arith in absurd z
largest key (suc zero) h = (1, omega arith, λ v a b. let e : v ≡ 1 = omega arith in rw e (refl≽ (key 1)))
largest key (suc (suc n)) h = let (r, i, m) = largest key (suc n) (omega arith) in step r i m (dec≽ (key r) (key (suc (suc n))))
  where
    also : (r : ℕ) → key r ≽ key (suc (suc n)) → ((v : ℕ) → 1 ≤ v → v ≤ suc n → key r ≽ key v) → (v : ℕ) → 1 ≤ v → v ≤ suc (suc n) → key r ≽ key v
    also r g m v a b = elim (ℕ_discrete v (suc (suc n))) [ yes e ↦ rw e g | no e ↦ m v a (omega arith) ]

    step : (r : ℕ) → (1 ≤ r) × (r ≤ suc n) → ((v : ℕ) → 1 ≤ v → v ≤ suc n → key r ≽ key v) → Dec (key r ≽ key (suc (suc n)))
        → (r : ℕ) × ((1 ≤ r) × (r ≤ suc (suc n))) × ((v : ℕ) → 1 ≤ v → v ≤ suc (suc n) → key r ≽ key v)
    step r i m (yes g) = (r, omega arith, also r g m)
    step r i m (no g) = (
      suc (suc n),
      omega arith,
      also (suc (suc n)) (refl≽ (key (suc (suc n))))
          (λ v a b. trans≽ (key (suc (suc n))) (key r) (key v) (below≽ (key r) (key (suc (suc n))) g) (m v a b)),
    )

module _ {N : ℕ} {E : List ℕ} {at : ℕ → List ℕ} {u v : ℕ} (z : IsCentre N E u v) where
  -- the code at one of two middle vertices, which stands at or after the other's
  pub at_first : at u ≽ at v → Centred N E at (at u)
  at_first g = record { first = u; second = v; centre = z; either = inl refl; above-first = refl≽ (at u); above-second = g }

  pub at_second : at v ≽ at u → Centred N E at (at v)
  at_second g = record { first = u; second = v; centre = z; either = inr refl; above-first = g; above-second = refl≽ (at v) }

module _ (N : ℕ) (E : List ℕ) (at : ℕ → List ℕ) (t : IsTree N E) where
  unfoldable pub some_n_tuple : (c : List ℕ) × NTuple N E at c
  some_n_tuple =
      let (r, i, m) = largest (λ v. degree E v ∷ at v) N (omega (arith, t.edges)) in (
        at r,
        record {
          root = r;
          inside = i;
          maximum = λ v a b. ⊎_elim (λ l. omega arith) (λ e. omega arith) (m v a b);
          is = refl;
          largest = λ v a b e. ⊎_elim (λ l. let z : ⊥ = omega arith in absurd z) (λ g. g.1) (m v a b);
        },
      )

  pub some_centred : (c : List ℕ) × Centred N E at c
  some_centred =
      let (p, h) = there_is_one N E t in
      let z : IsCentre N E (middle₁ p) (middle₂ p) = record { path = p; longest = h; first = refl; second = refl } in
      ⊎_elim (λ g. (at (middle₁ p), at_first z g)) (λ g. (at (middle₂ p), at_second z g)) (total≽ (at (middle₁ p)) (at (middle₂ p)))
