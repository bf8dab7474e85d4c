-- What the parts of the code promise each other. No call that a partner makes cites this file. Assumes nothing.
use Rattle.std.specs.Prelude.{◌≡◌, List, [], ◌∷◌, ℕ, suc, ◌≤◌, length, Option, None, Some}
use Rattle.laws.specs.document.Laid.{laid_over}
use Rattle.edge_list.specs.document.Edges.{Edge, first_end, second_end}
use Rattle.adjacency.specs.document.Adjacency.{lower, OneLower, rows, tied}

-- every end of every edge is from 1 up
pub record Numbered (E : List ℕ) : Type 0 where
  pub ends : (p : ℕ) → Edge E p → (1 ≤ first_end E p) × (1 ≤ second_end E p)

-- w is the lower neighbour that the edge from a to b gives to v, if it gives one
abbrev pub Gives : (a b v : ℕ) → Option ℕ → Type 0
Gives a b v None = lower (a ∷ b ∷ []) v ≡ []
Gives a b v (Some w) = (lower (a ∷ b ∷ []) v ≡ w ∷ []) × (1 ≤ w) × (w ≤ v)

-- w is the only lower neighbour of v, if there is exactly one
abbrev pub Only : (E : List ℕ) (v : ℕ) → Option ℕ → Type 0
Only E v None = OneLower E v → ⊥
Only E v (Some w) = (lower E v ≡ w ∷ []) × (w ≤ v)

-- the edges of column i are written from the start, and n is their number of bytes
pub record Column (i b : ℕ) (old : List ℕ) (n : ℕ) (new : List ℕ) : Type 0 where
  pub count : n ≡ length (tied (suc i) (rows 1 i b))
  pub lies : new ≡ laid_over (tied (suc i) (rows 1 i b)) old
