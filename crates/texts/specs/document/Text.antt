-- A text of lines. What a line may be is the parameter: a format says how a record is written, which form a line has when it is read, and what is
-- refused of what stands in it. Document 01's lines, and lines that later requests add, are formats.
--
-- In order: rows about the parts of a line; a format, and rows before it; a text as it is written; a line that has the form; rows 1 and 2, and those of the parts;
-- the answers that these rows allow to a line, and to a text. What damage can do is in `Damage`. Assumes nothing.
use Rattle.std.specs.Prelude.{◌≡◌, List, [], ◌∷◌, ◌++◌, map, ℕ, ◌≤◌, length}
use Rattle.refusal.specs.document.Table.{Row, Outcome, Promise}
use Rattle.texts.specs.document.Bytes.{Free, Cut}

-- a row about the parts of a line: its number, and the places at which it applies to the parts q
pub record PartRow (F : Type 0) : Type 1 where
  pub number : ℕ
  pub applies : F → ℕ → Type 0

-- a row about some of the parts, those that g takes
abbrev pub through : {F G : Type 0} → (G → F) → PartRow F → PartRow G
through g r = record { number = r.number; applies = λ q. r.applies (g q) }

-- A line format: A is what a line carries, a record; F is what the form of a line shows, its parts. What `first` refuses is refused of every line,
-- whatever it holds. A record is written as its body and a line feed; a line read is of the form, with its parts, or not; rows judge the parts; a
-- line that none of them refuses carries a record.
pub record Format (A F : Type 0) : Type 1 where
  pub first : List Row
  pub body : A → List ℕ
  pub Formed : List ℕ → F → Type 0
  pub rows : List (PartRow F)
  pub carries : F → A
  pub parts : A → F

-- the format in which rows stand before all others
abbrev pub behind : {A F : Type 0} → List Row → Format A F → Format A F
behind rows format =
    record {
      first = rows ++ format.first;
      body = format.body;
      Formed = format.Formed;
      rows = format.rows;
      carries = format.carries;
      parts = format.parts;
    }

-- the text of records, which are written by body: a line for each
unfoldable pub text_of : {A : Type 0} → (A → List ℕ) → List A → List ℕ
text_of body [] = []
text_of body (c ∷ cs) = (body c ++ (10 ∷ [])) ++ text_of body cs

-- 1: the line has no line feed
abbrev pub row1 : List ℕ → Row
row1 t = record { number = 1; applies = λ p. (p ≡ 0) × Free 10 t }

-- what has the form, without its line feed, is Formed
module _ {F : Type 0} (Formed : List ℕ → F → Type 0) where
  -- t, up to its first line feed, is of the form
  pub record Shaped (t : List ℕ) (q : F) : Type 0 where
    pub text : List ℕ
    pub rest : List ℕ
    pub feed : Cut 10 t text rest
    pub formed : Formed text q

  -- the line is of the form, and P holds of its parts
  pub record Where (t : List ℕ) (P : F → Type 0) : Type 0 where
    pub parts : F
    pub shape : Shaped t parts
    pub holds : P parts

  -- 2: the line is not of the form
  abbrev pub row2 : List ℕ → Row
  row2 t = record { number = 2; applies = λ p. (p ≡ 0) × ((q : F) → Shaped t q → ⊥) }

  -- the row for a line's parts
  abbrev pub of_line : List ℕ → PartRow F → Row
  of_line t r = record { number = r.number; applies = λ p. Where t (λ q. r.applies q p) }

-- "Reading a line takes a text up to its first line feed, looks at nothing behind it"
module _ {A F : Type 0} (format : Format A F) where
  -- what is refused of a line
  abbrev pub line_rows : List ℕ → List Row
  line_rows t = format.first ++ (row1 t ∷ row2 format.Formed t ∷ map (of_line format.Formed t) format.rows)

  -- the first line of t is of the form, and carries the record a
  abbrev pub LineCarries : List ℕ → A → Type 0
  LineCarries t a = Where format.Formed t (λ q. format.carries q ≡ a)

  -- the answers to the first line of t: its record, or a refusal
  abbrev pub LineAnswers : List ℕ → Outcome A → Type 0
  LineAnswers t o = Promise (line_rows t) (λ a (u : Unit {0}). LineCarries t a) tt tt o

  -- the answers to a text, line after line; "bytes after the last line feed, if any, are one unfinished line"
  pub data TextAnswers : List ℕ → List (Outcome A) → Type 0 where
    none : TextAnswers [] []
    unfinished : {t : List ℕ} {o : Outcome A} → 1 ≤ length t → Free 10 t → LineAnswers t o → TextAnswers t (o ∷ [])
    next : {t b rest : List ℕ} {o : Outcome A} {os : List (Outcome A)} → Cut 10 t b rest → LineAnswers t o →
        TextAnswers rest os → TextAnswers t (o ∷ os)
