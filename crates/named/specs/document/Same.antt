-- Document 02, wish 7: "Vertex classes and renumberings must keep the atoms too." The promises of the calls on two edge lists with letters: the verdict, the renumbering that is handed out, and a partner's
-- own judged. They are those of plain lists (`Same` and `Maps` of the crate `zurkhovel`) with other tables and codes.
--
-- N, E, s and P, F, u: the two edge lists with their letters; w: a map; old, new: the lent output before and after; o: the answer. Assumes nothing.
use Rattle.std.specs.Prelude.{◌≡◌, Bool, false, List, [], ℕ}
use Rattle.refusal.specs.document.Table.{Row, Answered}
use Rattle.refusal.specs.document.Lists.{lists_rows, maps_rows, HandsOut}
use Rattle.limits.specs.document.Limits.{size, valence}
use Rattle.skeleton.specs.document.Skeleton.{Renumbering}
use Rattle.skeleton.specs.document.Label.{Keeps}
use Rattle.skeleton.specs.document.Atom.{atom_at}
use Rattle.skeleton.specs.document.AtomMarks.{atoms}
use Rattle.edge_list.specs.document.Letters.{letter_rows}
use Rattle.form.specs.document.Labelled.{IsCentredₗ}
use Rattle.renumber.specs.document.Kept.{kept_rows, HandedKept}
use Rattle.zurkhovel.specs.document.Same.{Finding, OneCode}
use Rattle.zurkhovel.specs.document.Maps.{MapOutcome}
use Rattle.zurkhovel.specs.document.Reported.{SumOfBoth}
use Rattle.named.specs.document.Codes.{NamedMiddles}

-- what is refused of one list, where no root is named
abbrev pub named_list_rows : ℕ → List ℕ → List ℕ → List Row
named_list_rows N E s = letter_rows size valence N E 1 s

-- the centred codes, of digits and atoms, are equal or not
abbrev pub NamedEqualCodes : ℕ → List ℕ → List ℕ → ℕ → List ℕ → List ℕ → Bool → Type 0
NamedEqualCodes N E s P F u = OneCode (IsCentredₗ atoms N E (atom_at s)) (IsCentredₗ atoms P F (atom_at u))

-- what that means without codes: they have equally many vertices, and a renumbering that keeps the atoms carries the first onto the second. That the verdict says this is in `Meaning`
abbrev pub NamedSameUnder : ℕ → List ℕ → List ℕ → ℕ → List ℕ → List ℕ → Type 0
NamedSameUnder N E s P F u = (N ≡ P) × ((ρ : Renumbering N E F) × Keeps atoms N E F (atom_at s) (atom_at u) ρ)

-- the verdict
abbrev pub NamedSameSkeleton : ℕ → List ℕ → List ℕ → ℕ → List ℕ → List ℕ → Finding → Type 0
NamedSameSkeleton N E s P F u o = Answered (lists_rows [] (named_list_rows N E s) (named_list_rows P F u)) (NamedEqualCodes N E s P F u) o

-- the renumbering, which keeps the atoms
abbrev pub NamedHandOut : ℕ → List ℕ → List ℕ → ℕ → List ℕ → List ℕ → List ℕ → List ℕ → MapOutcome → Type 0
NamedHandOut N E s P F u old new o =
    HandsOut [] (named_list_rows N E s) (named_list_rows P F u) (HandedKept atoms (atom_at s) (atom_at u) N E P F) (NamedEqualCodes N E s P F u false) old new o

-- whether the map w is one; nothing is written
abbrev pub NamedCheckRenumbering : ℕ → List ℕ → List ℕ → ℕ → List ℕ → List ℕ → List ℕ → MapOutcome → Type 0
NamedCheckRenumbering N E s P F u w o =
    Answered (maps_rows [] (named_list_rows N E s) (named_list_rows P F u) (kept_rows (atom_at s) (atom_at u) N E P F w)) (λ n. n ≡ 0) o

-- the pairs of digit and atom looked at for both
abbrev pub NamedOfBoth : ℕ → List ℕ → List ℕ → ℕ → List ℕ → List ℕ → ℕ → Type 0
NamedOfBoth N E s P F u = SumOfBoth N P (NamedMiddles N E s) (NamedMiddles P F u)
