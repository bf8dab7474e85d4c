-- Demand 3 of named lines: named lines as a kind of line. The demand, its words and its statements, is in `Demand` of the crate `texts`, for any kind of
-- line; that it holds of this one is proved in `NamedDemanded`. Assumes nothing.
use Rattle.std.specs.Prelude.{List, [], ◌∷◌, ℕ, take}
use Rattle.limits.specs.document.Limits.{size}
use Rattle.texts.specs.document.Demand.{Kind}
use Rattle.named_lines.specs.document.Named.{Named, Parts, lines_of_named, named_lent, named_table}

-- the record that is shown: of the line's 64 bytes in each area the first, as many as its place, p, says; digits in the first area, letters in the second
abbrev pub named_shown : ℕ → List (List ℕ) → Named
named_shown p [] = record { digits = []; letters = [] }
named_shown p (d ∷ []) = record { digits = take p d; letters = [] }
named_shown p (d ∷ l ∷ bs) = record { digits = take p d; letters = take p l }

-- the named lines that a writer gives, with 64 bytes of each area for a line; which bytes it gives for a code with its letters is a parameter
abbrev pub named_kind : (List ℕ → Named → Type 0) → Kind Named Parts
named_kind Gives = record { format = lines_of_named size named_table; lent = named_lent size; shown = named_shown; Gives = Gives }
