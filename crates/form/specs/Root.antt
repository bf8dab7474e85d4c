-- The root of the centred code's numbering (`document.Root`): it is one, its code is the centred code, and how it is found among the two of a centre,
-- the lower number first. Assumes nothing.
use Rattle.std.specs.Prelude.{◌≡◌, ◌⊎◌, List, ℕ, ◌≤◌}
use Rattle.std.proofs.Common.{sym, subst, inl, inr, ⊎_elim, arith}
use Rattle.laws.specs.document.Order.{◌≽◌}
use Rattle.laws.specs.Sorting.{refl≽, antisym≽, below≽}
use Rattle.skeleton.specs.document.Skeleton.{IsTree, rooted}
use Rattle.longest_path.specs.document.Path.{IsCentre}
use Rattle.longest_path.specs.Theorems.{one-centre, centre_inside, centre-turned}
use Rattle.form.specs.document.Form.{Centred}
use Rattle.form.specs.document.Root.{Middle, RootOf}
use Rattle.form.specs.One.{at_first}

-- r is the root of the numbering of document 01's centred code
abbrev pub CentredRoot : ℕ → List ℕ → ℕ → Type 0
CentredRoot N E r = RootOf N E (rooted N E) r

-- a middle vertex is one of the two of a centre
either : {N : ℕ} {E : List ℕ} → IsTree N E → {u v : ℕ} → IsCentre N E u v → (w : ℕ) → Middle N E w → (w ≡ u) ⊎ (w ≡ v)
either {N} {E} t {u} {v} z w (x, y) = ⊎_elim (λ e. inl e.0) (λ e. inr e.0) (one-centre N E t u v w x z y)

module _ {N : ℕ} {E : List ℕ} {at : ℕ → List ℕ} where
  -- two have equal codes, and so the lower number each
  pub one-root : {r s : ℕ} → RootOf N E at r → RootOf N E at s → r ≡ s
  one-root {r} {s} x y =
      let e : at r ≡ at s = antisym≽ _ _ (x.largest s y.middle) (y.largest r x.middle) in
      omega (arith, x.lowest s y.middle (sym e), y.lowest r x.middle e)

  pub root_inside : {r : ℕ} → IsTree N E → RootOf N E at r → (1 ≤ r) × (r ≤ N)
  root_inside {r} t x = (centre_inside N E t r x.middle.0 x.middle.1).0

  module _ (t : IsTree N E) where
    -- its code is the centred one
    pub root-centred : {r : ℕ} → RootOf N E at r → Centred N E at (at r)
    root-centred {r} x = let (v, z) = x.middle in at_first z (x.largest v (r, centre-turned N E t r v z))

    -- of the two of a centre, the lower number first
    module _ {u v : ℕ} (z : IsCentre N E u v) where
      pub root-first : u ≤ v → at u ≽ at v → RootOf N E at u
      root-first h g =
          record {
            middle = (v, z);
            largest = λ w m. ⊎_elim (λ e. rw e (refl≽ (at u))) (λ e. rw e g) (either t z w m);
            lowest = λ w m e. ⊎_elim (λ f. omega arith) (λ f. omega arith) (either t z w m);
          }

      pub root-second : (at u ≽ at v → ⊥) → RootOf N E at v
      root-second n =
          record {
            middle = (u, centre-turned N E t u v z);
            largest = λ w m. ⊎_elim (λ e. rw e (below≽ (at u) (at v) n)) (λ e. rw e (refl≽ (at v))) (either t z w m);
            lowest = λ w m e. ⊎_elim (λ f. absurd (n (subst (λ x. x ≽ at v) (sym (rw f at e)) (refl≽ (at v))))) (λ f. omega arith) (either t z w m);
          }
