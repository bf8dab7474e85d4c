-- What the functions promise that read one line, count it and spell a number; and the lines of each kind. Assumes nothing.
use Rattle.std.specs.Prelude.{◌≡◌, List, ℕ, ◌≤◌, length, drop}
use Rattle.limits.specs.document.Limits.{size}
use Rattle.refusal.specs.document.Table.{Outcome, gives, refuses}
use Rattle.texts.specs.document.Text.{Format, LineAnswers}
use Rattle.texts.specs.document.Lent.{counted}
use Rattle.lines.specs.document.Line.{Front, plain_lines}
use Rattle.lines.specs.document.Judged.{digit_table}
use Rattle.named_lines.specs.document.Named as Lettered
use Rattle.listing_text.specs.declared.Kind.{Kind}
use Rattle.listing_text.specs.declared.Kind.TheVariants.{Plain, Named}

-- lines of a format, and how many bytes a call tells of a record
pub record Lined : Type 1 where
  pub A : Type 0
  pub F : Type 0
  pub format : Format A F
  pub long : A → ℕ

-- the lines of a kind
abbrev pub lines_of_kind : Kind → Lined
lines_of_kind (Plain R) = record { A = List ℕ; F = Front; format = plain_lines size (digit_table R); long = length }
lines_of_kind Named = record { A = Lettered.Named; F = Lettered.Parts; format = Lettered.lines_of_named size Lettered.named_table; long = λ c. length c.digits }

-- in plain lines a vertex may have a neighbour
abbrev pub Allowed : Kind → Type 0
Allowed (Plain R) = 1 ≤ R
Allowed Named = Unit {0}

-- o tells an answer to the first line of t
pub record Replied (l : Lined) (t : List ℕ) (o : Outcome ℕ) : Type 0 where
  pub answer : Outcome l.A
  pub line : LineAnswers l.format t answer
  pub tells : o ≡ counted l.long answer

-- 1 for a record, and 0 for a refusal
abbrev pub is_record : Outcome ℕ → ℕ
is_record (gives n) = 1
is_record (refuses k p) = 0

-- c ends the 32 bytes that are lent, from `at` on
pub record Spelt (c new : List ℕ) (at : ℕ) : Type 0 where
  pub long : length new ≡ 32
  pub within : at ≤ 32
  pub ends : drop at new ≡ c
