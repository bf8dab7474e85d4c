-- Document 01, "The listing": "The listing program reads standard input, at most 65,536 bytes; a longer input gives the single line
-- `input too long`. For each line it writes line number, refusal number (0 for a record) and place, with single spaces; then
-- `read R refused F`: R records, and F refused lines, the unfinished one among them. Lines count from 1, and every line written ends
-- in a line feed, `input too long` too."
--
-- In order: a number as it is written; the line for an answer; the last line; the listing of a text; the promise of a call that writes
-- a piece of it. What answers a text is `TextAnswers`; which lines it has is a parameter, and at the end stand plain lines. Assumes nothing.
use Rattle.std.specs.Prelude.{◌≡◌, List, [], ◌∷◌, ◌++◌, ℕ, zero, suc, ◌+◌, ◌/◌, ◌%◌, ◌≤◌, ◌<◌, length, take, drop}
use Rattle.std.proofs.Math.Logic.{ite}
use Rattle.std.proofs.Math.Decide.{dec_lt}
use Rattle.laws.specs.document.Laid.{Laid}
use Rattle.refusal.specs.document.Table.{Outcome, gives, refuses}
use Rattle.texts.specs.document.Text.{Format, TextAnswers}
use Rattle.texts.specs.document.Damage.{records, refusals}
use Rattle.lines.specs.document.Line.{DigitRow, plain_lines}

-- bytes of an input, at most
abbrev pub longest : ℕ
longest = 65536

-- n in decimal, as bytes, in at most k digits: below 10 its one digit, else those of n / 10 and then the last
unfoldable pub numeral_in : ℕ → ℕ → List ℕ
numeral_in zero n = []
numeral_in (suc k) n = ite (dec_lt n 10) ((48 + n) ∷ []) (numeral_in k (n / 10) ++ ((48 + n % 10) ∷ []))

-- n in decimal, without leading zeros; n + 1 digits are always enough
unfoldable pub numeral : ℕ → List ℕ
numeral n = numeral_in (suc n) n

-- the byte of a space
abbrev pub space : List ℕ
space = 32 ∷ []

-- the byte of a line feed
abbrev pub feed : List ℕ
feed = 10 ∷ []

-- "refusal number (0 for a record)"
abbrev pub refusal_number : {A : Type 0} → Outcome A → ℕ
refusal_number (gives a) = 0
refusal_number (refuses k p) = k

-- "and place": a record has none, and 0 is written
abbrev pub place : {A : Type 0} → Outcome A → ℕ
place (gives a) = 0
place (refuses k p) = p

-- the line for the answer to line i
unfoldable pub answer_line : {A : Type 0} → ℕ → Outcome A → List ℕ
answer_line i o = numeral i ++ space ++ numeral (refusal_number o) ++ space ++ numeral (place o) ++ feed

-- the lines for answers, the first of which is the answer to line i
unfoldable pub answer_lines : {A : Type 0} → ℕ → List (Outcome A) → List ℕ
answer_lines i [] = []
answer_lines i (o ∷ os) = answer_line i o ++ answer_lines (suc i) os

-- `read`
abbrev pub read_word : List ℕ
read_word = 114 ∷ 101 ∷ 97 ∷ 100 ∷ []

-- `refused`
abbrev pub refused_word : List ℕ
refused_word = 114 ∷ 101 ∷ 102 ∷ 117 ∷ 115 ∷ 101 ∷ 100 ∷ []

-- `read R refused F`
unfoldable pub totals : ℕ → ℕ → List ℕ
totals R F = read_word ++ space ++ numeral R ++ space ++ refused_word ++ space ++ numeral F ++ feed

-- the listing of a text with these answers
unfoldable pub listed : {A : Type 0} → List (Outcome A) → List ℕ
listed os = answer_lines 1 os ++ totals (length (records os)) (refusals os)

-- `input too long`
abbrev pub too_long : List ℕ
too_long = 105 ∷ 110 ∷ 112 ∷ 117 ∷ 116 ∷ 32 ∷ 116 ∷ 111 ∷ 111 ∷ 32 ∷ 108 ∷ 111 ∷ 110 ∷ 103 ∷ feed

-- of a text of lines of this format
module _ {A F : Type 0} (format : Format A F) where
  -- l is the listing of the text t
  pub data Listing (t l : List ℕ) : Type 0 where
    longer : longest < length t → l ≡ too_long → Listing t l
    lines : (os : List (Outcome A)) → length t ≤ longest → TextAnswers format t os → l ≡ listed os → Listing t l

  -- what is lent holds the listing of t from byte `from` on, as much as it has room for, which is n bytes; bytes count from 0
  pub record ListsOf (t old new : List ℕ) (from n : ℕ) : Type 0 where
    pub listing : List ℕ
    pub right : Listing t listing
    pub piece : Laid (take (length old) (drop from listing)) old new n

-- of a text of plain lines: most is the largest N of a line, rows judge its digits
abbrev pub Lists : ℕ → List DigitRow → List ℕ → List ℕ → List ℕ → ℕ → ℕ → Type 0
Lists most rows = ListsOf (plain_lines most rows)
