-- Document 02, wish 6: "Every routine that orders children carries the number upward: centred and N-tuple coding the sum over their roots, at
-- most that bound for each".
--
-- `at v` is the number at the root v; for the codes of document 01 it is `rooted_pairs N E v`. In order: the sum over the middles, the sum over the
-- vertices of maximum degree; the pairs of digits looked at for each code; over how many roots that is. Assumes nothing.
use Rattle.std.specs.Prelude.{◌≡◌, List, ℕ, zero, suc, ◌+◌, ◌≤◌}
use Rattle.std.proofs.Math.Logic.{ite}
use Rattle.std.proofs.Math.Decide.{ℕ_discrete}
use Rattle.skeleton.specs.document.Skeleton.{degree}
use Rattle.longest_path.specs.document.Path.{IsCentre}
use Rattle.numbering.specs.document.Pairs.{rooted_pairs}

-- n: the sum over the middle vertex, or the two middle vertices, of a longest path
pub record OverMiddles (N : ℕ) (E : List ℕ) (at : ℕ → ℕ) (n : ℕ) : Type 0 where
  pub first : ℕ
  pub second : ℕ
  pub centre : IsCentre N E first second
  pub is : n ≡ ite (ℕ_discrete first second) (at first) (at first + at second)

-- the sum over those of the vertices 1 to v that have the degree d
unfoldable pub of_degree : List ℕ → (ℕ → ℕ) → ℕ → ℕ → ℕ
of_degree E at d zero = 0
of_degree E at d (suc v) = of_degree E at d v + ite (ℕ_discrete (degree E (suc v)) d) (at (suc v)) 0

-- n: the sum over all vertices of maximum degree
pub record OverWidest (N : ℕ) (E : List ℕ) (at : ℕ → ℕ) (n : ℕ) : Type 0 where
  pub root : ℕ
  pub inside : (1 ≤ root) × (root ≤ N)
  pub maximum : (v : ℕ) → 1 ≤ v → v ≤ N → degree E v ≤ degree E root
  pub is : n ≡ of_degree E at (degree E root) N

-- n pairs of digits are looked at for the centred code of the skeleton of N vertices with the edges E
abbrev pub CentredPairs : ℕ → List ℕ → ℕ → Type 0
CentredPairs N E n = OverMiddles N E (rooted_pairs N E) n

-- for its N-tuple code
abbrev pub NTuplePairs : ℕ → List ℕ → ℕ → Type 0
NTuplePairs N E n = OverWidest N E (rooted_pairs N E) n

-- the centred code is looked for at k roots
abbrev pub CentredRoots : ℕ → List ℕ → ℕ → Type 0
CentredRoots N E k = OverMiddles N E (λ v. 1) k

-- the N-tuple code is
abbrev pub NTupleRoots : ℕ → List ℕ → ℕ → Type 0
NTupleRoots N E k = OverWidest N E (λ v. 1) k
