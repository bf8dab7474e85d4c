-- The form of a named line, as the code finds it: what its functions promise, in the words of `Named`. From the end of a line to its start: a number;
-- the three counts; letters and counts; the line. Then where digits and letters stand that are to be judged. Assumes nothing.
use Rattle.std.specs.Prelude.{◌≡◌, Bool, true, false, Option, MatchOption, Result, Ok, Err, List, [], ◌∷◌, ◌++◌, ℕ, ◌+◌, ◌-◌, ◌≤◌, ◌<◌, length, take}
use Rattle.laws.specs.Part.{part}
use Rattle.limits.specs.document.Limits.{size}
use Rattle.refusal.specs.document.Table.{FirstRefusal}
use Rattle.laws.specs.document.Each.{Each}
use Rattle.texts.specs.document.Text.{PartRow, Shaped, line_rows}
use Rattle.texts.specs.document.Parts.{spaced, tally}
use Rattle.texts.specs.document.Numerals.{IsNumber}
use Rattle.refusal.specs.declared.Refusal.{Refusal}
use Rattle.lines.specs.declared.Span.{Span}
use Rattle.lines.specs.document.Line.{front}
use Rattle.lines.specs.document.Marks.{WrittenDigits}
use Rattle.lines.specs.Form.{values}
use Rattle.named_lines.specs.declared.Lettering.{Lettering}
use Rattle.named_lines.specs.declared.Layout.{Layout}
use Rattle.skeleton.specs.document.Atom.{Letter}
use Rattle.named_lines.specs.document.Named.{Named, Parts, NamedFormed, parts_of, lines_of_named}

-- r is n up to 99, and above 99 where n is
abbrev pub Near : ℕ → ℕ → Type 0
Near n r = (r ≤ 99 → n ≡ r) × (99 < r → 99 < n)

-- r is near the number that t is
pub record NumberAt (t : List ℕ) (r : ℕ) : Type 0 where
  pub n : ℕ
  pub is : IsNumber t n
  pub near : Near n r

-- it is, or none where t is none
abbrev pub NumberRead : List ℕ → Option ℕ → Type 0
NumberRead t o = MatchOption o ((n : ℕ) → IsNumber t n → ⊥) (λ r. NumberAt t r)

-- t is three numbers, a space between each two, that say x, y and z
pub record Three (t : List ℕ) (x y z : ℕ) : Type 0 where
  pub c : List ℕ
  pub n : List ℕ
  pub o : List ℕ
  pub says-c : IsNumber c x
  pub says-n : IsNumber n y
  pub says_o : IsNumber o z
  pub parts : t ≡ spaced c (n ∷ o ∷ [])

-- they are the counts of the letters ls
pub record Tallies (ls : List ℕ) (x y z : ℕ) : Type 0 where
  pub c : tally 67 ls ≡ x
  pub n : tally 78 ls ≡ y
  pub o : tally 79 ls ≡ z

-- k says so; where there are no more letters than a line may have, it denies it only where they are not
pub record Compared (ls : List ℕ) (x y z : ℕ) (k : Bool) : Type 0 where
  pub fits : k ≡ true → Tallies ls x y z
  pub differs : k ≡ false → length ls ≤ size → Tallies ls x y z → ⊥

-- the counts t behind the letters ls are compared
pub record CountsAt (t ls : List ℕ) (k : Bool) : Type 0 where
  pub x : ℕ
  pub y : ℕ
  pub z : ℕ
  pub three : Three t x y z
  pub compared : Compared ls x y z k

-- they are, or have not the form
abbrev pub CountsRead : List ℕ → List ℕ → Option Bool → Type 0
CountsRead t ls o = MatchOption o ((x y z : ℕ) → Three t x y z → ⊥) (λ k. CountsAt t ls k)

-- t is letters, a space and three counts
pub record TailForm (t ls : List ℕ) (x y z : ℕ) : Type 0 where
  pub rest : List ℕ
  pub some : 1 ≤ length ls
  pub lettered : Each Letter ls
  pub three : Three rest x y z
  pub parts : t ≡ ls ++ (32 ∷ rest)

-- f letters, and their counts compared
pub record TailAt (t : List ℕ) (f : ℕ) (k : Bool) : Type 0 where
  pub x : ℕ
  pub y : ℕ
  pub z : ℕ
  pub within : f < length t
  pub form : TailForm t (take f t) x y z
  pub compared : Compared (take f t) x y z k

abbrev pub TailRead : List ℕ → Option Lettering → Type 0
TailRead t o = MatchOption o ((ls : List ℕ) (x y z : ℕ) → TailForm t ls x y z → ⊥) (λ l. TailAt t l.letters l.matching)

-- b is of the form: its count says n, its digits stand from s to e, and f letters behind one more space, whose counts are compared
pub record ShapeAt (b : List ℕ) (n s e f : ℕ) (k : Bool) : Type 0 where
  pub x : ℕ
  pub y : ℕ
  pub z : ℕ
  pub ordered : s ≤ e
  pub within : e + 1 + f < length b
  pub figures : WrittenDigits (part s e b)
  pub formed : NamedFormed b (record { front = front n (values (part s e b)); letters = part (e + 1) (e + 1 + f) b; carbons = x; nitrogens = y; oxygens = z })
  pub compared : Compared (part (e + 1) (e + 1 + f) b) x y z k

abbrev pub ShapeRead : List ℕ → Option Layout → Type 0
ShapeRead b o = MatchOption o ((q : Parts) → NamedFormed b q → ⊥) (λ l. ShapeAt b l.count l.start l.end l.tail.letters l.tail.matching)

-- the code with its letters whose digits stand in t from s to e, and its letters behind one more byte
abbrev pub standing : List ℕ → ℕ → ℕ → Named
standing t s e = record { digits = values (part s e t); letters = part (e + 1) (e + 1 + (e - s)) t }

-- it stands in t's first line, which rows 1, 2, 3, 5 and 21 do not refuse
pub record NamedStands (most : ℕ) (t : List ℕ) (s e : ℕ) : Type 0 where
  pub ordered : s ≤ e
  pub within : e + 1 + (e - s) ≤ length t
  pub figures : WrittenDigits (part s e t)
  pub shape : Shaped NamedFormed t (parts_of (standing t s e))
  pub some : 1 ≤ e - s
  pub few : e - s ≤ most

-- where the digits of t's first line stand, or the refusal that comes before they are judged
pub data NamedLocated (most : ℕ) (rows : List (PartRow Named)) (t : List ℕ) : Result Span Refusal → Type 0 where
  stands : {d : Span} → NamedStands most t d.start d.end → NamedLocated most rows t (Ok d)
  refused : {k : ℕ} → FirstRefusal (line_rows (lines_of_named most rows) t) k 0 → NamedLocated most rows t (Err (record { row = k; place = 0 }))
