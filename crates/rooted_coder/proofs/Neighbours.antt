-- Who is whose neighbour, by the arcs: neighbours are ends of edges, and so of each other. Assumes nothing.
use mathlib.Core.Path.{◌≡◌, sym}
use mathlib.Core.List.Memᴰ
use mathlib.Core.List.{List, [], ◌∷◌, Memᴰ}
use Prim.Native.Nat.{ℕ}
use native.Mathlib.Omega.{arith}
use lib.ListN.{length, get_or}
use Rattle.skeleton.specs.document.Skeleton.{arcs, neighbours}
use Rattle.skeleton.specs.Walks.{turn, arc_end}
use Rattle.skeleton.specs.Arcs.{near_arc, arc_near}

-- a neighbour is an end of an edge
pub neighbour_in : (E : List ℕ) (v : ℕ) {w : ℕ} → Memᴰ w (neighbours (arcs E) v) → Memᴰ w E
neighbour_in E v m = arc_end E (near_arc (arcs E) v _ m)

-- neighbours are so of each other
pub mutual_in : (E : List ℕ) {u w : ℕ} → Memᴰ w (neighbours (arcs E) u) → Memᴰ u (neighbours (arcs E) w)
mutual_in E {u} {w} m = arc_near (arcs E) w u (turn E (near_arc (arcs E) u w m))

-- the one member of a list
pub lone : (l : List ℕ) (u : ℕ) → length l ≡ 1 → Memᴰ u l → get_or l 0 0 ≡ u
lone [] u h m = absurd (Memᴰ.not-nil m)
lone (x ∷ []) u h m = sym (Memᴰ.eq_of_singleton m)
lone (x ∷ y ∷ l) u h m = let z : ⊥ = omega arith in absurd z
