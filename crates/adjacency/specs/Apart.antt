-- In a skeleton's edge list no edge stands twice, so no lower neighbour does. Assumes nothing.
use Rattle.std.specs.Prelude.{◌≡◌, refl, ◌⊎◌, ℕ, suc, ◌<◌}
use Rattle.std.proofs.Common.{ap, sym, ◌∙◌, inl, inr, ⊎_elim, arith}
use mathlib.Core.List.Memᴰ
use mathlib.Core.List.{List, [], ◌∷◌, Memᴰ}
use Rattle.std.proofs.Math.Decide.{ℕ_discrete, dec_lt}
use Rattle.laws.specs.document.Once.{Once}
use Rattle.refusal.specs.Laws.{never, others}
use Rattle.skeleton.specs.document.Skeleton.{Arc, arcs, Walk, here, along, IsSkeleton}
use Rattle.edge_list.specs.document.Edges.{Edge, first_end, second_end, before}
use Rattle.edge_list.specs.Theorems.{accepted}
use Rattle.adjacency.specs.document.Adjacency.{lower}
use Rattle.adjacency.specs.Lower.{lower_nil, lower_odd, lower-one, lower-other, lower_pass, lower_arc}
use Rattle.adjacency.specs.Columns.{Plain, none, odd, more}
use Rattle.adjacency.specs.Plain.{plain, next_one, next-other}

-- 8 applies nowhere
abbrev Apart : List ℕ → Type 0
Apart E = (p : ℕ) → Edge E p → Walk (arcs (before E p)) (first_end E p) (second_end E p) → ⊥

-- edge p goes from u to v or from v to u
abbrev Joins : List ℕ → ℕ → ℕ → ℕ → Type 0
Joins E p u v = ((first_end E p ≡ u) × (second_end E p ≡ v)) ⊎ ((first_end E p ≡ v) × (second_end E p ≡ u))

-- ---- one edge in front

step_edge : (a b : ℕ) (E : List ℕ) (p : ℕ) → Edge E p → Edge (a ∷ b ∷ E) (suc p)
step_edge a b E p k = omega (arith, k.0, k.1)

step-joins : (a b : ℕ) (E : List ℕ) (p u v : ℕ) → Edge E p → Joins E p u v → Joins (a ∷ b ∷ E) (suc p) u v
step-joins a b E p u v k j = rw (next-other p k.0, next_one p k.0) j

-- an arc is an edge, from one end or the other
arc_edge : (E : List ℕ) (u v : ℕ) → Memᴰ (u, v) (arcs E) → (p : ℕ) × Edge E p × Joins E p u v
unfolding arcs
arc_edge [] u v m = absurd (Memᴰ.not-nil m)
arc_edge (a ∷ []) u v m = absurd (Memᴰ.not-nil m)
arc_edge (a ∷ b ∷ E) u v m =
    ⊎_elim (λ e. (1, omega arith, inl (sym (ap (λ x. x.0) e), sym (ap (λ x. x.1) e))))
    (λ t. ⊎_elim (λ e. (1, omega arith, inr (sym (ap (λ x. x.1) e), sym (ap (λ x. x.0) e)))) (λ s. later (arc_edge E u v s)) (Memᴰ.cases_cons t))
    (Memᴰ.cases_cons m)
  where
    later : ((p : ℕ) × Edge E p × Joins E p u v) → (p : ℕ) × Edge (a ∷ b ∷ E) p × Joins (a ∷ b ∷ E) p u v
    later (p, k, j) = (suc p, step_edge a b E p k, step-joins a b E p u v k j)

walk-behind : (x y : Arc) {A : List Arc} {u v : ℕ} → Walk A u v → Walk (x ∷ y ∷ A) u v
walk-behind x y here = here
walk-behind x y (along h w) = along (Memᴰ.tail (Memᴰ.tail h)) (walk-behind x y w)

walk-front : (a b : ℕ) (F : List ℕ) {u v : ℕ} → Walk (arcs F) u v → Walk (arcs (a ∷ b ∷ F)) u v
unfolding arcs
walk-front a b F w = walk-behind (a, b) (b, a) w

-- u and v are the ends a and b
abbrev Ends : ℕ → ℕ → ℕ → ℕ → Type 0
Ends a b u v = ((u ≡ a) × (v ≡ b)) ⊎ ((u ≡ b) × (v ≡ a))

walk_first : (a b : ℕ) (F : List ℕ) {u v : ℕ} → Ends a b u v → Walk (arcs (a ∷ b ∷ F)) u v
unfolding arcs
walk_first a b F (inl e) = rw (e.0, e.1) (along (Memᴰ.head refl) here)
walk_first a b F (inr e) = rw (e.0, e.1) (along (Memᴰ.tail (Memᴰ.head refl)) here)

-- the edges behind the first are apart
apart_rest : (a b : ℕ) (E : List ℕ) → Apart (a ∷ b ∷ E) → Apart E
apart_rest a b E h p k w = h (suc p) (step_edge a b E p k) (rw (next-other p k.0, next_one p k.0) (walk-front a b (before E p) w))

ends_of : {a b u v x y : ℕ} → Ends a b u v → ((x ≡ u) × (y ≡ v)) ⊎ ((x ≡ v) × (y ≡ u)) → Ends a b x y
ends_of (inl e) (inl f) = inl (f.0 ∙ e.0, f.1 ∙ e.1)
ends_of (inl e) (inr f) = inr (f.0 ∙ e.1, f.1 ∙ e.0)
ends_of (inr e) (inl f) = inr (f.0 ∙ e.0, f.1 ∙ e.1)
ends_of (inr e) (inr f) = inl (f.0 ∙ e.1, f.1 ∙ e.0)

-- and none of them has the ends of the first
not_again : (a b : ℕ) (E : List ℕ) → Apart (a ∷ b ∷ E) → (u v : ℕ) → Ends a b u v → Memᴰ (u, v) (arcs E) → ⊥
not_again a b E h u v e m =
    let (p, k, j) = arc_edge E u v m in
    h (suc p) (step_edge a b E p k) (rw (next-other p k.0, next_one p k.0) (walk_first a b (before E p) (ends_of e j)))

-- ---- the lower neighbours

once_lower : {N : ℕ} {E : List ℕ} → Plain N E → Apart E → (v : ℕ) → Once (lower E v)
once_lower none h v = rw (lower_nil v) tt
once_lower (odd {a}) h v = rw (lower_odd a v) tt
once_lower (more {a} {b} {E} ha hb d p) h v = step (dec_lt a b) (ℕ_discrete v b) (ℕ_discrete v a) (once_lower p (apart_rest a b E h) v)
  where
    step : Dec (a < b) → Dec (v ≡ b) → Dec (v ≡ a) → Once (lower E v) → Once (lower (a ∷ b ∷ E) v)
    step (yes l) (yes e) z o = rw (e, lower-one a b E l) (λ m. not_again a b E h b a (inr (refl, refl)) (lower_arc E b a m), rw e at o)
    step (yes l) (no n) z o = rw (lower_pass a b v E (λ e. omega arith) (λ e. absurd (n (sym e)))) o
    step (no l) z (yes e) o = rw (e, lower-other a b E (omega arith)) (λ m. not_again a b E h a b (inl (refl, refl)) (lower_arc E a b m), rw e at o)
    step (no l) z (no n) o = rw (lower_pass a b v E (λ e. absurd (n (sym e))) (λ e. omega arith)) o

pub once : {most R N : ℕ} {E : List ℕ} → IsSkeleton most R N E → (v : ℕ) → Once (lower E v)
once {most} {R} {N} {E} s v =
    let c = (accepted most R N E 1).1 (s, (omega arith, omega (arith, s.tree.edges))) in
    once_lower (plain s) (λ p k w. never (others (others (others (others c)))) p (k, w)) v
