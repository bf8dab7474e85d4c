-- What the functions that look for a vertex's class keep: the parents of the vertices, as the digits of the marks tell them, and the test by marks. Assumes
-- nothing.
use Rattle.std.specs.Prelude.{◌≡◌, List, ℕ, suc, ◌+◌, ◌-◌, ◌*◌, ◌≤◌, ◌<◌, length, get_or}
use Rattle.limits.specs.document.Limits.{size}
use Rattle.skeleton.specs.document.Label.{digits}
use Rattle.skeleton.specs.document.AtomMarks.{atoms}
use Rattle.skeleton.specs.Label.{IsRootedₗ}
use Rattle.numbering.specs.document.Decoded.{parent}
use Rattle.orbits.specs.Classes.{Turnsₗ, Testₗ, testₗ}

-- An array has the edges of a rooted code, parents first: that of the vertex of mark i, marks counted from 0, is at place 2i - 2.
pub record Above (c edges : List ℕ) : Type 0 where
  pub right : IsRootedₗ atoms c
  pub long : length edges ≡ 2 * (size - 1)
  pub each : (i : ℕ) → 1 ≤ i → i < length c → get_or edges (i + i - 2) 0 ≡ parent (digits atoms c) (suc i)

-- the skeleton turns over to bring the root to v
abbrev pub Turns : List ℕ → ℕ → Type 0
Turns c v = Turnsₗ atoms (digits atoms c) c v

-- u, which stands before v, is in v's class; l: the classes of the vertices before v
abbrev pub Test : List ℕ → List ℕ → ℕ → ℕ → Type 0
Test c l u v = Testₗ atoms (digits atoms c) c l u v

-- whether it is
abbrev pub test? : (c l : List ℕ) (u v : ℕ) → Dec (Test c l u v)
test? c l u v = testₗ atoms (digits atoms c) c l u v
