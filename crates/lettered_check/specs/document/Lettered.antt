-- Document 02, wish 7: "Codes compare by digit first and then by atom, C below N below O, vertex by vertex." "20 too many neighbours for the atom (place: [..] the digit in a code), after 10".
--
-- A code with a letter for each digit. In order: the marks of digits and letters; what is refused of them before 14; the tables of digits and letters that are lent by themselves. R: neighbours of a vertex, at most. Assumes nothing.
use Rattle.std.specs.Prelude.{List, [], ◌∷◌, ◌++◌, map, ℕ, length}
use Rattle.refusal.specs.document.Table.{Row, row3}
use Rattle.digit_code.specs.document.Code.{row10, row11, row12, row13}
use Rattle.skeleton.specs.document.Label.{row20}
use Rattle.skeleton.specs.document.Atom.{Atom, bonds, atom_of}
use Rattle.skeleton.specs.document.AtomMarks.{atoms}
use Rattle.form.specs.document.Labelled.{row14ₗ}
use Rattle.letters.specs.document.Letters.{row2-letters, row21-letters}

-- digits and letters as marks, one for each vertex
unfoldable pub marks_of : List ℕ → List ℕ → List ℕ
marks_of [] ls = []
marks_of (d ∷ ds) [] = []
marks_of (d ∷ ds) (b ∷ ls) = atoms.mark d (atom_of b) ∷ marks_of ds ls

-- What is refused of digits and their marks, before 14: each row over both. Every digit is judged for 10 and 20, those behind the code's end too.
abbrev pub marked_rows : ℕ → List (List ℕ → List ℕ → Row)
marked_rows R =
    (λ ds ms. row10 R ds) ∷ (λ ds ms. row20 atoms bonds ms) ∷ (λ ds ms. row11 ds) ∷ (λ ds ms. row12 ds) ∷ (λ ds ms. row13 atoms.arity ms) ∷ []

-- those of the digits ds with the marks ms
abbrev pub named_digit_rows : ℕ → List ℕ → List ℕ → List Row
named_digit_rows R ds ms = map (λ r. r ds ms) (marked_rows R)

-- the table of digits and letters lent by themselves that are to be a rooted code: at most `most` digits
abbrev pub lettered_code_rows : ℕ → ℕ → List ℕ → List ℕ → List Row
lettered_code_rows most R ds ls = row2-letters ls ∷ row3 most (length ds) ∷ row21-letters (length ds) ls ∷ named_digit_rows R ds (marks_of ds ls)

-- the same of a code of a form
abbrev pub lettered_form_rows : (ℕ → List ℕ → (ℕ → Atom) → List ℕ → Type 0) → ℕ → ℕ → List ℕ → List ℕ → List Row
lettered_form_rows form most R ds ls = lettered_code_rows most R ds ls ++ (row14ₗ atoms form (marks_of ds ls) ∷ [])
