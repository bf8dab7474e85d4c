-- The centred code with the vertex of each digit, and the edges in the numbering by code. Assumes nothing.
use Rattle.std.specs.Prelude.{◌≡◌, List, map, ℕ, suc, ◌≤◌, ◌<◌, get_or}
use Rattle.laws.specs.Places.{place}
use Rattle.digit_code.specs.document.Code.{decode}
use Rattle.skeleton.specs.document.Skeleton.{rooted, Renumbering}
use Rattle.skeleton.specs.document.Label.{rootedₗ}
use Rattle.skeleton.specs.document.Atom.{Atom}
use Rattle.skeleton.specs.document.AtomMarks.{atoms}
use Rattle.numbering.specs.document.Order as numbers
use Rattle.numbering.specs.document.Order.{orderₗ}
use Rattle.form.specs.document.Form.{Centred, IsCentred}
use Rattle.form.specs.document.Root.{RootOf}

-- c is the centred code of E, the one at root, of equal ones that of the lower number, and o has the vertex of each of its numbers; `at v` is the
-- code at the root v, and `standing v` has its vertices
pub record NumberedBy (N : ℕ) (E : List ℕ) (at standing : ℕ → List ℕ) (o c : List ℕ) : Type 0 where
  pub root : ℕ
  pub inside : (1 ≤ root) × (root ≤ N)
  pub code : c ≡ at root
  pub right : Centred N E at c
  pub rule : RootOf N E at root
  pub order : o ≡ standing root

-- of document 01's codes
abbrev pub Numbered : ℕ → List ℕ → List ℕ → List ℕ → Type 0
Numbered N E o c = NumberedBy N E (rooted N E) (numbers.order N E) o c

-- by marks of digit and atom
abbrev pub Numberedₗ : (ℕ → Atom) → ℕ → List ℕ → List ℕ → List ℕ → Type 0
Numberedₗ label N E o c = NumberedBy N E (rootedₗ atoms label N E) (orderₗ atoms label N E) o c

-- t has at each of the first n of o its place, 1 for the first
abbrev pub Counts : List ℕ → ℕ → List ℕ → Type 0
Counts o n t = (i : ℕ) → i < n → get_or t (get_or o i 0) 0 ≡ suc i

-- F is E in the numbering by code, that of the centred code at root: each end is replaced by its place in the order of the digits
pub record ByPlace (N : ℕ) (E F : List ℕ) : Type 0 where
  pub root : ℕ
  pub right : IsCentred N E (rooted N E root)
  pub numbering : Renumbering N E (decode (rooted N E root))
  pub places : (v : ℕ) → numbering.to v ≡ suc (place v (numbers.order N E root))
  pub is : F ≡ map numbering.to E
