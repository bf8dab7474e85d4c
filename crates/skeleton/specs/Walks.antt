-- Walks along arcs: turned round, and one behind the other; in a tree any two vertices are joined. Assumes nothing.
use Rattle.std.proofs.Common.{ap}
use mathlib.Core.List.Memᴰ
use mathlib.Core.List.{List, [], ◌∷◌, Memᴰ}
use Rattle.std.specs.Prelude.{ℕ, ◌≤◌}
use Rattle.skeleton.specs.document.Skeleton.{Arc, arcs, Walk, here, along, IsTree}

-- each edge gives both arcs
pub turn : (E : List ℕ) {u v : ℕ} → Memᴰ (u, v) (arcs E) → Memᴰ (v, u) (arcs E)
unfolding arcs
turn [] h = absurd (Memᴰ.not-nil h)
turn (a ∷ []) h = absurd (Memᴰ.not-nil h)
turn (a ∷ b ∷ E) (Memᴰ.head e) = Memᴰ.tail (Memᴰ.head (ap (λ (x : Arc). (x.1, x.0)) e))
turn (a ∷ b ∷ E) (Memᴰ.tail (Memᴰ.head e)) = Memᴰ.head (ap (λ (x : Arc). (x.1, x.0)) e)
turn (a ∷ b ∷ E) (Memᴰ.tail (Memᴰ.tail h)) = Memᴰ.tail (Memᴰ.tail (turn E h))

-- an arc's ends are in the edge list
pub arc_end : (E : List ℕ) {u v : ℕ} → Memᴰ (u, v) (arcs E) → Memᴰ v E
unfolding arcs
arc_end [] h = absurd (Memᴰ.not-nil h)
arc_end (a ∷ []) h = absurd (Memᴰ.not-nil h)
arc_end (a ∷ b ∷ E) (Memᴰ.head e) = Memᴰ.tail (Memᴰ.head (ap (λ (x : Arc). x.1) e))
arc_end (a ∷ b ∷ E) (Memᴰ.tail (Memᴰ.head e)) = Memᴰ.head (ap (λ (x : Arc). x.1) e)
arc_end (a ∷ b ∷ E) (Memᴰ.tail (Memᴰ.tail h)) = Memᴰ.tail (Memᴰ.tail (arc_end E h))

pub walk_on : {A : List Arc} {u v w : ℕ} → Walk A u v → Walk A v w → Walk A u w
walk_on here q = q
walk_on (along h p) q = along h (walk_on p q)

pub walk-back : (E : List ℕ) {u v : ℕ} → Walk (arcs E) u v → Walk (arcs E) v u
walk-back E here = here
walk-back E (along h p) = walk_on (walk-back E p) (along (turn E h) here)

pub walks : (N : ℕ) (E : List ℕ) → IsTree N E → (u : ℕ) → 1 ≤ u → u ≤ N → (v : ℕ) → 1 ≤ v → v ≤ N → Walk (arcs E) u v
walks N E t u h k v i j = walk_on (walk-back E (t.linked u h k)) (t.linked v i j)
