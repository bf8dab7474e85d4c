-- Demand 2, of skeletons with named atoms: what a call gave in two parts, and a skeleton with its atoms under other numbers. Assumes nothing.
use Rattle.std.specs.Prelude.{◌≡◌, List, ◌++◌, ℕ, length, take}
use Rattle.laws.specs.document.Laid.{laid_over}
use Rattle.refusal.specs.document.Table.{Outcome, gives}
use Rattle.refusal.specs.document.Both.{TwoOutputs}
use Rattle.skeleton.specs.document.Skeleton.{Renumbering}
use Rattle.skeleton.specs.document.Label.{Keeps}
use Rattle.skeleton.specs.document.Atom.{atom_at}
use Rattle.skeleton.specs.document.AtomMarks.{atoms}
use Rattle.named_lines.specs.document.Named.{named_line}

-- c and l are given: the length of c is told, and each is written from the start of its output
abbrev pub GivenBoth : List ℕ → List ℕ → TwoOutputs → TwoOutputs → Outcome ℕ → Type 0
GivenBoth c l old new o = (o ≡ gives (length c)) × (new ≡ (laid_over c old.0, laid_over l old.1))

-- F with the letters u is the skeleton of N vertices with the edges E and the letters s under other numbers, with its atoms
abbrev pub NamedUnder : ℕ → List ℕ → List ℕ → List ℕ → List ℕ → Type 0
NamedUnder N E s F u = (ρ : Renumbering N E F) × Keeps atoms N E F (atom_at s) (atom_at u) ρ

-- it is given so: the edges into one output, the letters into the other
abbrev pub NamedRenumbered : ℕ → List ℕ → List ℕ → TwoOutputs → Outcome ℕ → Type 0
NamedRenumbered N E s new o = (o ≡ gives (length E)) × NamedUnder N E s (take (length E) new.0) (take N new.1)

-- t begins with the named line of the digits ds with the letters ls
abbrev pub NamedBegins : List ℕ → List ℕ → List ℕ → Type 0
NamedBegins ds ls t = (rest : List ℕ) × (t ≡ named_line ds ls ++ rest)
