-- A row of a table has the neighbours of its vertex. Assumes nothing.
use mathlib.Core.Path.{◌≡◌, ◌∙◌}
use mathlib.Core.List.{List, [], Memᴰ}
use Prim.Native.Nat.{ℕ, ◌-◌, ◌≤◌}
use native.Mathlib.Omega.{arith}
use lib.ListN.{length, get_or, take}
use lib.Seq.{ext_get_or, length-take-le, get_or-take}
use Rattle.limits.specs.document.Limits.{size}
use Rattle.limits.specs.Width.{width}
use Rattle.skeleton.specs.document.Skeleton.{arcs, neighbours, degree, Degrees}
use Rattle.skeleton.specs.Arcs.{near_arc, arc_near}
use Rattle.edge_list.specs.Table.{IsTable, Held, deg}

-- the neighbours of v in a table
abbrev pub row : List (List ℕ) → List ℕ → ℕ → List ℕ
row t d v = take (deg d v) (get_or t (v - 1) [])

pub few : {N : ℕ} {t : List (List ℕ)} {d : List ℕ} → Held N t d → (v : ℕ) → 1 ≤ v → v ≤ N → deg d v ≤ width
unfolding Degrees
few h v l k = omega (arith, h.table.degs v l k, h.skeleton.degrees v l k)

module _ {N : ℕ} {E : List ℕ} {t : List (List ℕ)} {d : List ℕ} (s : IsTable N E t d) (small : N ≤ size) (v : ℕ) (low : 1 ≤ v) (high : v ≤ N) (most : deg d v ≤ width) where
  row-neighbours : row t d v ≡ neighbours (arcs E) v
  unfolding degree
  row-neighbours =
      let l : length (row t d v) ≡ deg d v = length-take-le (deg d v) (get_or t (v - 1) []) (omega (arith, s.shaped.wide (v - 1) (omega arith))) in
      let n : deg d v ≡ length (neighbours (arcs E) v) = s.degs v low high in
      ext_get_or 0 (row t d v) (neighbours (arcs E) v) (l ∙ n) (λ i h. get_or-take (deg d v) (get_or t (v - 1) []) i 0 (omega arith) ∙ s.row v i low high (omega arith))

  pub row_arc : (w : ℕ) → Memᴰ w (row t d v) → Memᴰ (v, w) (arcs E)
  row_arc w m = near_arc (arcs E) v w (rw row-neighbours at m)

  pub arc_row : (w : ℕ) → Memᴰ (v, w) (arcs E) → Memᴰ w (row t d v)
  arc_row w m = rw row-neighbours (arc_near (arcs E) v w m)
