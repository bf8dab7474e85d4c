-- The atoms of a skeleton in the code: beside the table of neighbours, the rank of each vertex's atom. A plain skeleton is the one whose atoms are all carbon
-- (`carbon-named`). Assumes nothing.
use Rattle.std.specs.Prelude.{◌≡◌, refl, List, ℕ, ◌-◌, ◌≤◌, length, get_or, replicate}
use Rattle.std.proofs.Common.{arith}
use Rattle.std.proofs.lemmas.List.{get_or-replicate}
use Rattle.limits.specs.document.Limits.{size}
use Rattle.skeleton.specs.document.Atom.{Atom, rank}
use Rattle.skeleton.specs.Carbon.{carbon}

-- the rank of v's atom, by the table
abbrev pub rank_at : List ℕ → ℕ → ℕ
rank_at a v = get_or a (v - 1) 0

-- a has the rank of each vertex's atom
pub record Named (N : ℕ) (label : ℕ → Atom) (a : List ℕ) : Type 0 where
  pub long : length a ≡ size
  pub ranks : (v : ℕ) → 1 ≤ v → v ≤ N → rank_at a v ≡ rank (label v)

-- a has atoms for N vertices
pub record Ranked (N : ℕ) (a : List ℕ) : Type 0 where
  pub label : ℕ → Atom
  pub named : Named N label a

-- zeros are all carbon
pub carbon-named : (N : ℕ) → N ≤ size → Named N carbon (replicate size 0)
carbon-named N h = record { long = refl; ranks = λ v i j. get_or-replicate {A = ℕ} size (v - 1) 0 0 (omega arith) }
