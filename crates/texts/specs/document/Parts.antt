-- A line of parts set apart by single spaces, and how often a byte stands in a part. Assumes nothing.
use Rattle.std.proofs.Math.Logic.{ite}
use Rattle.std.specs.Prelude.{List, [], ◌∷◌, ◌++◌, ℕ, ◌+◌}
use Rattle.std.proofs.Math.Decide.{ℕ_discrete}

-- the parts f ∷ r, a space between each two
unfoldable pub spaced : List ℕ → List (List ℕ) → List ℕ
spaced f [] = f
spaced f (g ∷ r) = f ++ (32 ∷ spaced g r)

-- how often a stands in t
unfoldable pub tally : ℕ → List ℕ → ℕ
tally a [] = 0
tally a (b ∷ t) = ite (ℕ_discrete b a) 1 0 + tally a t
