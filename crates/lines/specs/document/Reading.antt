-- Reading plain lines into what is lent: the digits of each line, as values, in one area. What reading a line and a text into lent areas promises
-- is in `Lent` of the crate `texts`. `LineRead` and `TextRead` are for any format of plain lines; those of an edition are `lines_of`. Assumes nothing.
use Rattle.std.specs.Prelude.{List, [], ◌∷◌, ℕ, length}
use Rattle.refusal.specs.document.Table.{Outcome}
use Rattle.limits.specs.document.Limits.{size}
use Rattle.edition.specs.document.Edition.{neighbours_in, row22}
use Rattle.texts.specs.document.Text.{Format, behind}
use Rattle.texts.specs.document.Lent.{Lent, ReadsLine, ReadsText}
use Rattle.lines.specs.document.Line.{Front, plain_lines}
use Rattle.lines.specs.document.Judged.{digit_table}

-- the lines of the edition e: 22 is before all others, also before 1 and 2, so that in an edition that is none each line is 22
abbrev pub lines_of : ℕ → Format (List ℕ) Front
lines_of e = behind (row22 e ∷ []) (plain_lines size (digit_table (neighbours_in e)))

-- what is lent for the digits: one area, with w bytes for each line
abbrev pub digits_lent : ℕ → Lent (List ℕ)
digits_lent w = record { width = w; views = (λ c. c) ∷ []; long = λ c. length c }

-- reading the first line of t into a lent output
abbrev pub LineRead : ℕ → Format (List ℕ) Front → List ℕ → List ℕ → List ℕ → Outcome ℕ → Type 0
LineRead w lines t old new o = ReadsLine lines (digits_lent w) t (old ∷ []) (new ∷ []) o

-- reading the text t into what is lent: w bytes, a number and a place for each line
abbrev pub TextRead : ℕ → Format (List ℕ) Front → List ℕ → List ℕ → List ℕ → List ℕ → List ℕ → List ℕ → List ℕ → ℕ → ℕ → Type 0
TextRead w lines t rec num pla rec' num' pla' k at = ReadsText lines (digits_lent w) t (rec ∷ []) num pla (rec' ∷ []) num' pla' k at
