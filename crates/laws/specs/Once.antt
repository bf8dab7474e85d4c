-- Lists in which nothing stands twice.
--
-- What that is stands in `document.Once`. In order: how rearranging and joining keep it; that such a list is no longer than one that holds its members;
-- the numbers 1 to n as such a list. Assumes nothing.
use Rattle.std.specs.Prelude.{◌≡◌, refl, ◌⊎◌, ℕ, zero, suc, ◌≤◌, length}
use Rattle.std.proofs.Common.{sym, ◌∙◌, inl, inr, ⊎_elim, arith}
use mathlib.Core.List.Memᴰ
use mathlib.Core.List.Permᴰ
use mathlib.Core.List.{List, [], ◌∷◌, ◌++◌, Memᴰ, Permᴰ}
use Rattle.std.proofs.Math.Decide.{ℕ_discrete}
use Rattle.laws.specs.document.Once.{Once}
use Rattle.laws.specs.Perms.{perm_in, perm_length}

module _ {A : Type 0} where
  pub once_perm : {l m : List A} → Permᴰ l m → Once l → Once m
  once_perm Permᴰ.nil o = tt
  once_perm (Permᴰ.cons e d) o = (λ h. o.0 (Memᴰ.cast e (perm_in (Permᴰ.symm d) h)), once_perm d o.1)
  once_perm (Permᴰ.swap e f) o = (
    λ h. ⊎_elim (λ p. o.0 (Memᴰ.head (e ∙ sym p ∙ sym f))) (λ m. o.1.0 (Memᴰ.cast f m)) (Memᴰ.cases_cons h),
    (λ h. o.0 (Memᴰ.tail (Memᴰ.cast e h)), o.1.1),
  )
  once_perm (Permᴰ.trans d e) o = once_perm e (once_perm d o)

  pub once_left : (l m : List A) → Once (l ++ m) → Once l
  once_left [] m o = tt
  once_left (a ∷ l) m o = (λ h. o.0 (Memᴰ.append_left m h), once_left l m o.1)

  pub once_right : (l m : List A) → Once (l ++ m) → Once m
  once_right [] m o = o
  once_right (a ∷ l) m o = once_right l m o.1

  pub once_apart : (l : List A) {m : List A} {a : A} → Once (l ++ m) → Memᴰ a l → Memᴰ a m → ⊥
  once_apart [] o h k = Memᴰ.not-nil h
  once_apart (x ∷ l) o h k = ⊎_elim (λ e. o.0 (Memᴰ.append_right l (Memᴰ.cast (sym e) k))) (λ j. once_apart l o.1 j k) (Memᴰ.cases_cons h)

  -- a member, and the others
  pub pick : {a : A} {l : List A} → Memᴰ a l → (r : List A) × Permᴰ l (a ∷ r)
  pick (Memᴰ.head {xs = xs} e) = (xs, Permᴰ.cons (sym e) (Permᴰ.refl xs))
  pick (Memᴰ.tail {x} m) =
      let (r, d) = pick m in
      (x ∷ r, Permᴰ.trans (Permᴰ.cons refl d) (Permᴰ.swap refl refl))

  -- what holds all its members is at least as long
  pub fits : (l m : List A) → Once l → ((a : A) → Memᴰ a l → Memᴰ a m) → length l ≤ length m
  fits [] m o s = omega arith
  fits (a ∷ l) m o s =
      let (r, d) = pick (s a (Memᴰ.head refl)) in
      let others : (b : A) → Memᴰ b l → Memᴰ b r =
      λ b h. ⊎_elim (λ e. absurd (o.0 (Memᴰ.cast (sym e) h))) (λ k. k) (Memᴰ.cases_cons (perm_in d (s b (Memᴰ.tail h)))) in
      omega (arith, perm_length d, fits l r o.1 others)

-- the numbers n to 1
unfoldable pub up_to : ℕ → List ℕ
up_to zero = []
up_to (suc n) = suc n ∷ up_to n

pub up_to_length : (n : ℕ) → length (up_to n) ≡ n
unfolding up_to
up_to_length zero = refl
up_to_length (suc n) = omega (arith, up_to_length n)

pub in_up_to : (n v : ℕ) → Memᴰ v (up_to n) → (1 ≤ v) × (v ≤ n)
unfolding up_to
in_up_to zero v h = absurd (Memᴰ.not-nil h)
in_up_to (suc n) v h = step (Memᴰ.cases_cons h) (in_up_to n v)
  where
    step : (v ≡ suc n) ⊎ Memᴰ v (up_to n) → (Memᴰ v (up_to n) → (1 ≤ v) × (v ≤ n)) → (1 ≤ v) × (v ≤ suc n)
    step (inl e) f = omega arith
    step (inr m) f = omega (arith, f m)

pub up_to_in : (n v : ℕ) → 1 ≤ v → v ≤ n → Memᴰ v (up_to n)
unfolding up_to
up_to_in zero v h k = let z : ⊥ = omega arith in absurd z
up_to_in (suc n) v h k = step (ℕ_discrete v (suc n)) (up_to_in n v h)
  where
    step : Dec (v ≡ suc n) → (v ≤ n → Memᴰ v (up_to n)) → Memᴰ v (up_to (suc n))
    step (yes e) f = Memᴰ.head e
    step (no e) f = Memᴰ.tail (f (omega arith))

pub up_to_once : (n : ℕ) → Once (up_to n)
unfolding up_to
up_to_once zero = tt
up_to_once (suc n) = (λ h. omega (arith, in_up_to n (suc n) h), up_to_once n)
