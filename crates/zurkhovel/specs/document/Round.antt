-- Demand 2: "coding and decoding gives the same skeleton under other numbers". Assumes nothing.
use Rattle.std.specs.Prelude.{◌≡◌, ℕ, length, take}
use mathlib.Core.List.{List, Permᴰ, ◌++◌}
use Rattle.refusal.specs.document.Table.{Outcome, gives}
use Rattle.skeleton.specs.document.Skeleton.{Renumbering, arcs}
use Rattle.lines.specs.document.Line.{line}

-- the skeleton of N vertices with the edges E is given, under other numbers
abbrev pub Renumbered : ℕ → List ℕ → List ℕ → Outcome ℕ → Type 0
Renumbered N E new o = (o ≡ gives (length E)) × Renumbering N E (take (length E) new)

-- the skeleton with the edges E is given, under its own numbers
abbrev pub Kept : List ℕ → List ℕ → Outcome ℕ → Type 0
Kept E new o = (o ≡ gives (length E)) × Permᴰ (arcs E) (arcs (take (length E) new))

-- t begins with the line of c
abbrev pub Begins : List ℕ → List ℕ → Type 0
Begins c t = (rest : List ℕ) × (t ≡ line c ++ rest)
