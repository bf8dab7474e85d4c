-- Document 01, "Same skeleton": "Two edge lists are the same when their centred codes are equal. Different sizes are simply "not the
-- same". A refusal says which list; the first list's comes first."
--
-- In order: the verdict, as it is told; the two tables, one behind the other; the same by codes and without them; the promise. That the promise
-- allows one verdict is in `One`, and what the verdict is without codes in `Meaning`. Assumes nothing.
use Rattle.std.specs.Prelude.{◌≡◌, Bool, true, false, List, [], ◌∷◌, ℕ}
use Rattle.refusal.specs.document.Table.{RowOf, Row, OutcomeOf, Answered}
use Rattle.refusal.specs.document.Lists.{lists_rows}
use Rattle.limits.specs.document.Limits.{size}
use Rattle.edition.specs.document.Edition.{neighbours_in, row22}
use Rattle.skeleton.specs.document.Skeleton.{Renumbering}
use Rattle.edge_list.specs.document.Edges.{edge_rows}
use Rattle.form.specs.document.Form.{IsCentred}

-- whether the two are the same, or which list is refused, with number and place
abbrev pub Finding : Type 0
Finding = OutcomeOf (ℕ × ℕ) Bool

-- what is refused of an edge list where no root is named, in the edition e behind 22
abbrev pub list_rows : ℕ → ℕ → List ℕ → List Row
list_rows e N E = edge_rows size (neighbours_in e) N E 1

-- 22 belongs to no list, and is before all others
abbrev pub both_rows : ℕ → ℕ → List ℕ → ℕ → List ℕ → List (RowOf (ℕ × ℕ))
both_rows e N E P F = lists_rows (row22 e ∷ []) (list_rows e N E) (list_rows e P F)

-- a code is both a C and a D; or none is
abbrev pub OneCode : (List ℕ → Type 0) → (List ℕ → Type 0) → Bool → Type 0
OneCode C D true = (c : List ℕ) × C c × D c
OneCode C D false = (c : List ℕ) → C c → D c → ⊥

-- "Two edge lists are the same when their centred codes are equal."
abbrev pub EqualCodes : ℕ → List ℕ → ℕ → List ℕ → Bool → Type 0
EqualCodes N E P F = OneCode (IsCentred N E) (IsCentred P F)

-- what that means without codes: they have equally many vertices, and a renumbering carries the first onto the second. That the verdict says this is in `Meaning`
abbrev pub SameUnder : ℕ → List ℕ → ℕ → List ℕ → Type 0
SameUnder N E P F = (N ≡ P) × Renumbering N E F

-- N vertices with the edges E, and P vertices with the edges F, in the edition e
abbrev pub SameSkeleton : ℕ → ℕ → List ℕ → ℕ → List ℕ → Finding → Type 0
SameSkeleton e N E P F o = Answered (both_rows e N E P F) (EqualCodes N E P F) o
