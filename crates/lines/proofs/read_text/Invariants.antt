-- `lines::read_text` meets its contract: the loop keeps what is read so far. Assumes nothing.
use mathlib.Core.List.{[], ◌∷◌}
use Rattle.limits.specs.document.Limits.{size}
use Rattle.texts.specs.Going.{Going}
use Rattle.lines.specs.document.Reading.{lines_of, digits_lent}
use Rattle.lines.proofs.read_text.Given as goal

abbrev pub invariant-loop-k : goal.invariant-loop-k
invariant-loop-k l = Going (lines_of l.edition) (digits_lent size) l.text (l.initial.records ∷ []) l.initial.numbers l.initial.places l.lines (l.records ∷ []) l.numbers l.places l.k l.at
