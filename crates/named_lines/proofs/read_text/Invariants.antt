-- `named_lines::read_text` meets its contract: the loop keeps what is read so far. Assumes nothing.
use mathlib.Core.List.{[], ◌∷◌}
use Rattle.limits.specs.document.Limits.{size}
use Rattle.texts.specs.Going.{Going}
use Rattle.named_lines.specs.document.Named.{lines_of_named, named_lent, named_table}
use Rattle.named_lines.proofs.read_text.Given as goal

abbrev pub invariant-loop-k : goal.invariant-loop-k
invariant-loop-k l = Going (lines_of_named size named_table) (named_lent size) l.text (l.initial.records ∷ l.initial.letters ∷ []) l.initial.numbers l.initial.places l.many (l.records ∷ l.letters ∷ []) l.numbers l.places l.k l.at
