-- Document 02, wish 7: "A named line adds to a plain line, after single spaces, N atom letters in digit order and then the counts of C, N and O,
-- without leading zeros." "21 the letters are not N in number or the counts do not match, after 5; leading zeros, a missing or further part, or other
-- marks there [..] are 2." "Its reader takes no other lines, and is lent 64 bytes more for each, for the letters."
--
-- In order: a record; a line as it is written, without and with its line feed; the form of a line that is read; row 21; the format; reading into two lent areas.
-- Which rows judge the digits with their letters is a parameter of these, and so is the largest N; at the end the rows of a named line: 10, 20, 11 to 13, and 14 over atoms. Assumes nothing.
use Rattle.std.specs.Prelude.{◌≡◌, List, [], ◌∷◌, ◌++◌, map, ℕ, ◌≤◌, length}
use Rattle.refusal.specs.document.Table.{Row, Outcome}
use Rattle.limits.specs.document.Limits.{valence}
use Rattle.laws.specs.document.Each.{Each}
use Rattle.skeleton.specs.document.Atom.{C, N, O, letter, Letter}
use Rattle.skeleton.specs.document.AtomMarks.{atoms}
use Rattle.form.specs.document.Labelled.{IsCentredₗ, row14ₗ}
use Rattle.lettered_check.specs.document.Lettered.{marks_of, marked_rows}
use Rattle.texts.specs.document.Numerals.{figures, decimal, Digits, IsCount, IsNumber}
use Rattle.texts.specs.document.Text.{PartRow, through, Format}
use Rattle.texts.specs.document.Lent.{Lent, ReadsLine, ReadsText}
use Rattle.texts.specs.document.Parts.{spaced, tally}
use Rattle.lines.specs.document.Line.{Front, front, row3-line, row5_line}

-- a code with its letters, which are bytes
pub record Named : Type 0 where
  pub digits : List ℕ
  pub letters : List ℕ

-- the line of a code with its letters, without its line feed
unfoldable pub named_body : Named → List ℕ
named_body c =
    spaced (decimal (length c.digits)) (
    figures c.digits
    ∷ c.letters
    ∷ decimal (tally (letter C) c.letters)
    ∷ decimal (tally (letter N) c.letters)
    ∷ decimal (tally (letter O) c.letters)
    ∷ []
    )

-- the line of the digits ds with the letters ls
abbrev pub named_line : List ℕ → List ℕ → List ℕ
named_line ds ls = named_body (record { digits = ds; letters = ls }) ++ (10 ∷ [])

-- what the form of a named line shows: count and digits as of a plain line, the letters, and what the three counts say
pub record Parts : Type 0 where
  pub front : Front
  pub letters : List ℕ
  pub carbons : ℕ
  pub nitrogens : ℕ
  pub oxygens : ℕ

-- b is a count, one or more digits, one or more letters and three numbers without leading zeros, a space between each two
pub record NamedFormed (b : List ℕ) (q : Parts) : Type 0 where
  pub count : List ℕ
  pub c : List ℕ
  pub n : List ℕ
  pub o : List ℕ
  pub counts : IsCount count q.front.count
  pub some : 1 ≤ length q.front.digits
  pub digits : Digits q.front.digits
  pub some_letters : 1 ≤ length q.letters
  pub lettered : Each Letter q.letters
  pub says-c : IsNumber c q.carbons
  pub says-n : IsNumber n q.nitrogens
  pub says_o : IsNumber o q.oxygens
  pub parts : b ≡ spaced count (figures q.front.digits ∷ q.letters ∷ c ∷ n ∷ o ∷ [])

-- the letters are N in number, and the counts are theirs
pub record Matches (q : Parts) : Type 0 where
  pub number : length q.letters ≡ q.front.count
  pub c : tally (letter C) q.letters ≡ q.carbons
  pub n : tally (letter N) q.letters ≡ q.nitrogens
  pub o : tally (letter O) q.letters ≡ q.oxygens

-- 21: they are not
abbrev pub row21 : PartRow Parts
row21 = record { number = 21; applies = λ q p. (p ≡ 0) × (Matches q → ⊥) }

-- what a named line carries
abbrev pub carried : Parts → Named
carried q = record { digits = q.front.digits; letters = q.letters }

-- what the line of a record shows
abbrev pub parts_of : Named → Parts
parts_of c =
    record {
      front = front (length c.digits) c.digits;
      letters = c.letters;
      carbons = tally (letter C) c.letters;
      nitrogens = tally (letter N) c.letters;
      oxygens = tally (letter O) c.letters;
    }

-- the format of named lines: most is the largest N, rows judge digits and letters
abbrev pub lines_of_named : ℕ → List (PartRow Named) → Format Named Parts
lines_of_named most rows =
    record {
      first = [];
      body = named_body;
      Formed = NamedFormed;
      rows = through (λ q. q.front) (row3-line most) ∷ through (λ q. q.front) row5_line ∷ row21 ∷ map (through carried) rows;
      carries = carried;
      parts = parts_of;
    }

-- what is lent for named lines: an area for the digits and one for the letters, with w bytes for each line in both
abbrev pub named_lent : ℕ → Lent Named
named_lent w = record { width = w; views = (λ c. c.digits) ∷ (λ c. c.letters) ∷ []; long = λ c. length c.digits }

-- reading the first line of t: the digits into the first area, the letters into the second
abbrev pub NamedLineRead : ℕ → List (PartRow Named) → List ℕ → List ℕ → List ℕ → List ℕ → List ℕ → Outcome ℕ → Type 0
NamedLineRead most rows t old letters old' letters' o = ReadsLine (lines_of_named most rows) (named_lent most) t (old ∷ letters ∷ []) (old' ∷ letters' ∷ []) o

-- reading the text t: rec and lets are lent for digits and letters, num and pla for a number and a place of each line
abbrev pub NamedTextRead :
    ℕ → List (PartRow Named) → ℕ → List ℕ → List ℕ → List ℕ → List ℕ → List ℕ → List ℕ → List ℕ → List ℕ → List ℕ → ℕ → ℕ → Type 0
NamedTextRead most rows w t rec lets num pla rec' lets' num' pla' k at =
    ReadsText (lines_of_named most rows) (named_lent w) t (rec ∷ lets ∷ []) num pla (rec' ∷ lets' ∷ []) num' pla' k at

-- a row over digits and their marks, whose number is the same for all of them, as one of a line's digits and letters
abbrev pub named_row : (List ℕ → List ℕ → Row) → PartRow Named
named_row r = record { number = (r [] []).number; applies = λ c. (r c.digits (marks_of c.digits c.letters)).applies }

-- the rows; a vertex has at most `valence` neighbours, and no more than its atom allows
abbrev pub named_table : List (PartRow Named)
named_table = map named_row (marked_rows valence ++ ((λ ds ms. row14ₗ atoms (IsCentredₗ atoms) ms) ∷ []))
