-- Digits and letters tell the code that they are of. Assumes nothing.
use Rattle.std.specs.Prelude.{◌≡◌, refl, List, [], ◌∷◌, ℕ}
use Rattle.std.proofs.Common.{sym, ap, ap₂, ◌∙◌}
use Rattle.skeleton.specs.document.Label.{digits}
use Rattle.skeleton.specs.document.AtomMarks.{atoms}
use Rattle.skeleton.specs.Atoms.{letter_atom}
use Rattle.letters.specs.document.Letters.{letters_of}
use Rattle.lettered_check.specs.document.Lettered.{marks_of}

-- put together again they are the code
pub spelled-marks : (c : List ℕ) → marks_of (digits atoms c) (letters_of c) ≡ c
unfolding digits letters_of marks_of
spelled-marks [] = refl
spelled-marks (m ∷ c) = ap₂ ◌∷◌ (ap (atoms.mark (atoms.arity m)) (letter_atom (atoms.atom m)) ∙ atoms.mark_of m) (spelled-marks c)

-- so two codes are equal just where their digits and letters are
pub spelled_apart : {c d : List ℕ} → digits atoms c ≡ digits atoms d → letters_of c ≡ letters_of d → c ≡ d
spelled_apart {c} {d} e f = sym (spelled-marks c) ∙ ap₂ marks_of e f ∙ spelled-marks d
