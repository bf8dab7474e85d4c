-- Neighbours and arcs: who is a neighbour, by the arcs; in a tree nobody is twice. Assumes nothing.
use Rattle.std.specs.Prelude.{◌≡◌, ◌⊎◌, ℕ, ◌≤◌}
use Rattle.std.proofs.Common.{sym, ap, inl, inr, ⊎_elim}
use mathlib.Core.List.Memᴰ
use mathlib.Core.List.Permᴰ
use mathlib.Core.List.{List, [], ◌∷◌, Memᴰ}
use Rattle.std.proofs.Math.Decide.{ℕ_discrete}
use Rattle.laws.specs.Once.{once_perm}
use Rattle.laws.specs.document.Once.{Once}
use Rattle.skeleton.specs.document.Skeleton.{Arc, arcs, neighbours, IsTree}
use Rattle.skeleton.specs.Forest.{Forest, none, tree, Distinct, Rooted}
use Rattle.skeleton.specs.Grow.{rooted_tree}
use Rattle.skeleton.specs.Codes.{roots, root_in, near, neighbours_at, neighbours_past, neighbours_perm}

-- a neighbour is one along an arc
pub near_arc : (A : List Arc) (v w : ℕ) → Memᴰ w (neighbours A v) → Memᴰ (v, w) A
unfolding neighbours
near_arc [] v w m = absurd (Memᴰ.not-nil m)
near_arc (e ∷ A) v w m = step (ℕ_discrete e.0 v) (near_arc A v w)
  where
    step : Dec (e.0 ≡ v) → (Memᴰ w (neighbours A v) → Memᴰ (v, w) A) → Memᴰ (v, w) (e ∷ A)
    step (yes f) r = ⊎_elim (λ g. Memᴰ.head (λ i. (sym f i, g i))) (λ k. Memᴰ.tail (r k)) (Memᴰ.cases_cons (rw (neighbours_at e.0 v e.1 A f) at m))
    step (no n) r = Memᴰ.tail (r (rw (neighbours_past e.0 v e.1 A n) at m))

-- and one along an arc is a neighbour
pub arc_near : (A : List Arc) (v w : ℕ) → Memᴰ (v, w) A → Memᴰ w (neighbours A v)
arc_near [] v w m = absurd (Memᴰ.not-nil m)
arc_near (e ∷ A) v w m = step (ℕ_discrete e.0 v) (Memᴰ.cases_cons m) (arc_near A v w)
  where
    step : Dec (e.0 ≡ v) → ((v, w) ≡ e) ⊎ Memᴰ (v, w) A → (Memᴰ (v, w) A → Memᴰ w (neighbours A v)) → Memᴰ w (neighbours (e ∷ A) v)
    step (yes f) (inl g) r = rw (neighbours_at e.0 v e.1 A f) (Memᴰ.head (ap (λ (x : Arc). x.1) g))
    step (yes f) (inr k) r = rw (neighbours_at e.0 v e.1 A f) (Memᴰ.tail (r k))
    step (no n) (inl g) r = absurd (n (sym (ap (λ (x : Arc). x.0) g)))
    step (no n) (inr k) r = rw (neighbours_past e.0 v e.1 A n) (r k)

roots_once : (f : Forest) → Distinct f → Once (roots f)
unfolding roots
roots_once none t = tt
roots_once (tree v d f) t = (λ m. t.1 (root_in f m), roots_once f t.4)

-- a tree has no edge twice
pub neighbours_once : (N : ℕ) (E : List ℕ) (v : ℕ) → IsTree N E → 1 ≤ v → v ≤ N → Once (neighbours (arcs E) v)
neighbours_once N E v t h k =
    let r : Rooted N E v = rooted_tree N E v t h k in
    once_perm (Permᴰ.symm (neighbours_perm v r.same)) (rw (near v r.forest r.apart) (roots_once r.forest r.distinct))
