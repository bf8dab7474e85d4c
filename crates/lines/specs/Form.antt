-- The form of a line, as the code finds it and writes it: what its functions promise, in the words of `Line`; and how many lines of a text there
-- is room for. Assumes nothing.
use Rattle.std.specs.Prelude.{◌≡◌, Bool, true, false, List, [], ◌∷◌, ◌++◌, map, Option, MatchOption, Result, Ok, Err, ℕ, ◌+◌, ◌-◌, ◌≤◌, ◌<◌, ◌*◌, length, drop}
use Rattle.laws.specs.Part.{part}
use Rattle.refusal.specs.document.Table.{Row, FirstRefusal}
use Rattle.refusal.specs.declared.Refusal.{Refusal}
use Rattle.lines.specs.declared.Opening.{Opening}
use Rattle.lines.specs.declared.Span.{Span}
use Rattle.texts.specs.document.Numerals.{IsCount}
use Rattle.texts.specs.document.Text.{Shaped, line_rows}
use Rattle.lines.specs.document.Line.{Front, front, Formed, plain_lines}
use Rattle.lines.specs.document.Marks.{WrittenDigits}

-- the value of the digit that the byte b is, or none where it is none
abbrev pub Value : ℕ → Option ℕ → Type 0
Value b o = MatchOption o ((d : ℕ) → d ≤ 9 → b ≡ 48 + d → ⊥) (λ v. (v ≤ 9) × (b ≡ 48 + v))

-- their values
unfoldable pub values : List ℕ → List ℕ
values t = map (λ b. b - 48) t

-- whether t is one or more digits
pub data Figured (t : List ℕ) : Bool → Type 0 where
  all : 1 ≤ length t → WrittenDigits t → Figured t true
  not_all : (1 ≤ length t → WrittenDigits t → ⊥) → Figured t false

-- b begins with a count that says n, and a space; what follows them begins at s
pub record Begins (b : List ℕ) (n s : ℕ) : Type 0 where
  pub count : List ℕ
  pub rest : List ℕ
  pub counts : IsCount count n
  pub parts : b ≡ count ++ (32 ∷ rest)
  pub start : s ≡ length count + 1

-- how b begins
abbrev pub Opens : List ℕ → Option Opening → Type 0
Opens b o = MatchOption o ((n s : ℕ) → Begins b n s → ⊥) (λ r. Begins b r.count r.start)

-- b, a line without its line feed, is of the form: its count says n, and its digits begin at s
pub record FormAt (b : List ℕ) (n s : ℕ) : Type 0 where
  pub within : s ≤ length b
  pub figures : WrittenDigits (drop s b)
  pub formed : Formed b (front n (values (drop s b)))

-- it is, or none where b is not of the form
abbrev pub Forms : List ℕ → Option Opening → Type 0
Forms b o = MatchOption o ((q : Front) → Formed b q → ⊥) (λ r. FormAt b r.count r.start)

-- The digits of t's first line stand from s to e, and rows 1, 2, 3 and 5 do not refuse it.
pub record Stands (most : ℕ) (t : List ℕ) (s e : ℕ) : Type 0 where
  pub ordered : s ≤ e
  pub within : e ≤ length t
  pub figures : WrittenDigits (part s e t)
  pub shape : Shaped Formed t (front (e - s) (values (part s e t)))
  pub some : 1 ≤ e - s
  pub few : e - s ≤ most

-- what is refused of a line before its digits are judged
abbrev pub front_rows : ℕ → List ℕ → List Row
front_rows most t = line_rows (plain_lines most []) t

-- where the digits of t's first line stand, or the refusal that comes before they are judged
pub data Located (most : ℕ) (t : List ℕ) : Result Span Refusal → Type 0 where
  stands : {d : Span} → Stands most t d.start d.end → Located most t (Ok d)
  refused : {k : ℕ} → FirstRefusal (front_rows most t) k 0 → Located most t (Err (record { row = k; place = 0 }))

-- there is room for so many lines, and for no more
pub record Room (w records numbers places n : ℕ) : Type 0 where
  pub enough : (w * n ≤ records) × (n ≤ numbers) × (n ≤ places)
  pub no_more : w * n + w ≤ records → n < numbers → n < places → ⊥
