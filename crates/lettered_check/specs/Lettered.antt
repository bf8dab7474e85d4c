-- Digits and their marks, where there is a letter for each digit. Assumes nothing.
use Rattle.std.specs.Prelude.{◌≡◌, refl, List, [], ◌∷◌, ℕ, zero, suc, ◌+◌, ◌*◌, ◌<◌, length, get_or}
use Rattle.std.proofs.Common.{sym, ap, ap₂, arith}
use Rattle.digit_code.specs.Digits.{digits}
use Rattle.skeleton.specs.document.Atom.{rank, atom_of}
use Rattle.skeleton.specs.document.AtomMarks.{atoms}
use Rattle.lettered_check.specs.document.Lettered.{marks_of}

pub marks-digits : (ds ls : List ℕ) → length ls ≡ length ds → ds ≡ digits atoms.arity (marks_of ds ls)
unfolding marks_of
marks-digits [] ls e = refl
marks-digits (d ∷ ds) [] e = absurd (omega arith)
marks-digits (d ∷ ds) (b ∷ ls) e = ap₂ (λ (k : ℕ) (l : List ℕ). k ∷ l) (sym (atoms.arity_mark d (atom_of b))) (marks-digits ds ls (omega arith))

pub length_marks : (ds ls : List ℕ) → length ls ≡ length ds → length (marks_of ds ls) ≡ length ds
unfolding marks_of
length_marks [] ls e = refl
length_marks (d ∷ ds) [] e = absurd (omega arith)
length_marks (d ∷ ds) (b ∷ ls) e = ap suc (length_marks ds ls (omega arith))

pub mark-at : (ds ls : List ℕ) (i : ℕ) → length ls ≡ length ds → i < length ds → get_or (marks_of ds ls) i 0 ≡ 3 * get_or ds i 0 + rank (atom_of (get_or ls i 0))
unfolding marks_of
mark-at [] ls i e l = absurd (omega arith)
mark-at (d ∷ ds) [] i e l = absurd (omega arith)
mark-at (d ∷ ds) (b ∷ ls) zero e l = refl
mark-at (d ∷ ds) (b ∷ ls) (suc i) e l = mark-at ds ls i (omega arith) (omega arith)
