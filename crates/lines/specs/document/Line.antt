-- Document 01, "Lines": "A line is: N as a count of one digit, or of two with the first not 0; one space; N digits of a centred
-- code; one line feed (byte 10)."
--
-- In order: a line as it is written; the form of a line that is read; rows 3 and 5 of "Refusal numbers" for a line, and rows about its digits;
-- the format of plain lines. Rows 1 and 2, and what a line and a text are answered, are in `Text` of the crate `texts`, for any format.
-- Which rows judge the digits is a parameter here, and so is the largest N. Assumes nothing.
use Rattle.std.specs.Prelude.{◌≡◌, List, [], ◌∷◌, ◌++◌, map, ℕ, ◌≤◌, length}
use Rattle.refusal.specs.document.Table.{Row, row3}
use Rattle.texts.specs.document.Numerals.{figures, decimal, Digits, IsCount}
use Rattle.texts.specs.document.Text.{PartRow, through, Format}

-- the line of the code c, without its line feed
unfoldable pub body : List ℕ → List ℕ
body c = decimal (length c) ++ (32 ∷ figures c)

-- the line of the code c
unfoldable pub line : List ℕ → List ℕ
line c = body c ++ (10 ∷ [])

-- what the form of a line shows: what its count says, and its digits
pub record Front : Type 0 where
  pub count : ℕ
  pub digits : List ℕ

-- the count n, and the digits ds
abbrev pub front : ℕ → List ℕ → Front
front n ds = record { count = n; digits = ds }

-- "count, one space, one or more digits 0 to 9": b is that, with the count and the digits of q
pub record Formed (b : List ℕ) (q : Front) : Type 0 where
  pub count : List ℕ
  pub counts : IsCount count q.count
  pub some : 1 ≤ length q.digits
  pub digits : Digits q.digits
  pub parts : b ≡ count ++ (32 ∷ figures q.digits)

-- 3: N is 0 or above `most`
abbrev pub row3-line : ℕ → PartRow Front
row3-line most = record { number = 3; applies = λ q. (row3 most q.count).applies }

-- 5: a line's digits are not N in number
abbrev pub row5_line : PartRow Front
row5_line = record { number = 5; applies = λ q p. (p ≡ 0) × (length q.digits ≡ q.count → ⊥) }

-- a row about digits: its number, and the places at which it applies to the digits c
abbrev pub DigitRow : Type 1
DigitRow = PartRow (List ℕ)

-- a row of a table for digits, whose number is the same for all of them
abbrev pub digit_row : (List ℕ → Row) → DigitRow
digit_row r = record { number = (r []).number; applies = λ c. (r c).applies }

-- the format of plain lines: most is the largest N, rows judge the digits, and these are what a line carries
abbrev pub plain_lines : ℕ → List DigitRow → Format (List ℕ) Front
plain_lines most rows =
    record {
      first = [];
      body = body;
      Formed = Formed;
      rows = row3-line most ∷ row5_line ∷ map (through (λ q. q.digits)) rows;
      carries = λ q. q.digits;
      parts = λ c. front (length c) c;
    }
