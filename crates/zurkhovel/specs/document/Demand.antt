-- Demand 3 of plain lines: what `write_line` gives, and plain lines of an edition, e, as a kind of line. The demand, its words and its statements, is in
-- `Demand` of the crate `texts`, for any kind of line; that it holds of this one is proved in `Demanded`. Assumes nothing.
use Rattle.std.specs.Prelude.{◌≡◌, List, [], ◌∷◌, ℕ, ◌≤◌, length, take}
use Rattle.refusal.specs.document.Table.{Clear, Outcome, gives}
use Rattle.refusal.specs.document.Given.{Given}
use Rattle.limits.specs.document.Limits.{size}
use Rattle.form.specs.document.Form.{IsCentred}
use Rattle.texts.specs.document.Demand.{Kind}
use Rattle.lines.specs.document.Line.{line, Front}
use Rattle.lines.specs.document.Reading.{lines_of, digits_lent}
use Rattle.zurkhovel.specs.document.InEdition.{edge_table}
use Rattle.zurkhovel.specs.document.Lines.{WriteLine}

-- ---- what `write_line` gives

-- the edge list E of N vertices is accepted
abbrev pub AcceptedList : ℕ → ℕ → List ℕ → Type 0
AcceptedList e N E = Clear (edge_table e size N E 1)

-- what `write_line` gives is the line of the centred code of an accepted edge list
abbrev pub GivesALine : ℕ → Type 0
GivesALine e =
    (N : ℕ) (E old new : List ℕ) (n : ℕ) → WriteLine (edge_table e) N E old new (gives n)
    → AcceptedList e N E × ((c : List ℕ) × IsCentred N E c × (take n new ≡ line c))

-- and for every accepted edge list it gives that line, where 68 bytes are lent
abbrev pub GivesEachLine : ℕ → Type 0
GivesEachLine e =
    (N : ℕ) (E old new : List ℕ) (o : Outcome ℕ) → AcceptedList e N E → 68 ≤ length old → WriteLine (edge_table e) N E old new o
    → (c : List ℕ) × IsCentred N E c × Given (line c) old new o

-- ---- plain lines as a kind of line

-- b is the n bytes that `write_line` gives for a skeleton; the record written is its centred code, c
pub record LineGiven (e : ℕ) (b c : List ℕ) : Type 0 where
  pub N : ℕ
  pub E : List ℕ
  pub old : List ℕ
  pub new : List ℕ
  pub n : ℕ
  pub writes : WriteLine (edge_table e) N E old new (gives n)
  pub code : IsCentred N E c
  pub bytes : b ≡ take n new

-- the record that is shown: of the line's 64 bytes in the one area the first, as many as its place, p, says
abbrev pub digits_shown : ℕ → List (List ℕ) → List ℕ
digits_shown p [] = []
digits_shown p (b ∷ bs) = take p b

-- the plain lines of the edition e, as `write_line` gives them and `read_text` reads them, with 64 bytes of the one area for each
abbrev pub plain_kind : ℕ → Kind (List ℕ) Front
plain_kind e = record { format = lines_of e; lent = digits_lent size; shown = digits_shown; Gives = LineGiven e }
