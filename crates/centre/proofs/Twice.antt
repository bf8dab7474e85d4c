-- Two walks: what each begins with and leaves, and that the second one's way is a longest path. Assumes nothing.
use mathlib.Core.Path.{◌≡◌, refl, sym}
use mathlib.Core.List.Memᴰ
use mathlib.Core.List.{List, ◌∷◌}
use Prim.Native.Nat.{ℕ, zero, suc, ◌≤◌}
use native.Mathlib.Omega.{arith}
use lib.ListN.{get_or, replicate}
use Rattle.limits.specs.document.Limits.{size}
use Rattle.skeleton.specs.document.Skeleton.{IsTree}
use Rattle.longest_path.specs.document.Path.{middle₁, middle₂, IsCentre}
use Rattle.longest_path.specs.Theorems.{two_walks}
use Rattle.centre.specs.Walking.{Starts, Reached, Trail}

zeros : (n v : ℕ) → get_or (replicate {A = ℕ} n 0) v 0 ≡ 0
zeros zero v = refl
zeros (suc n) zero = refl
zeros (suc n) (suc v) = zeros n v

pub starts : {n s : ℕ} → 1 ≤ s → s ≤ n → Starts n s (replicate {A = ℕ} (suc size) 0)
starts l h = record { low = l; high = h; long = refl; none = zeros (suc size) }

module _ {N s r : ℕ} {E up : List ℕ} (a : Reached N E s up r) where
  pub reached_in : (1 ≤ r) × (r ≤ N)
  reached_in = a.climb.way.path.inside r (Memᴰ.head refl)

  pub trail : N ≤ size → Trail up r a.climb.way.rest
  trail k = record {
    long = a.long;
    leads = a.climb.leads;
    once = a.climb.way.path.once;
    inside = λ w m. omega (arith, a.climb.way.path.inside w m);
  }

module _ {N : ℕ} {E up up₂ : List ℕ} {u v : ℕ} (t : IsTree N E) (a : Reached N E 1 up u) (b : Reached N E u up₂ v) where
  pub middle_is : {x y : ℕ} → (x ≡ middle₁ (v ∷ b.climb.way.rest)) × (y ≡ middle₂ (v ∷ b.climb.way.rest)) → IsCentre N E x y
  middle_is m = record {
    path = v ∷ b.climb.way.rest;
    longest = two_walks N E t 1 u v (omega arith) (omega (arith, t.edges)) a.farthest b.climb.way b.farthest;
    first = sym m.0;
    second = sym m.1;
  }
