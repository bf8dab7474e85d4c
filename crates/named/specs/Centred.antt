-- The centred code of an accepted edge list with letters: no row refuses its marks, and a named line may carry it. Assumes nothing.
use Rattle.std.specs.Prelude.{◌≡◌, List, [], ◌∷◌, ◌++◌, ℕ, ◌+◌, ◌-◌, ◌≤◌, ◌<◌, length, get_or}
use Rattle.std.proofs.Common.{sym, ◌∙◌, subst, arith}
use Rattle.laws.specs.Each.{each_of}
use Rattle.refusal.specs.document.Table.{Clear, row3}
use Rattle.refusal.specs.Laws.{never, others, at_least, clear_left}
use Rattle.limits.specs.document.Limits.{size, valence}
use Rattle.digit_code.specs.document.Code.{cap}
use Rattle.digit_code.specs.Editions.{cap_most}
use Rattle.skeleton.specs.document.Label.{digits}
use Rattle.skeleton.specs.Label.{mark_rows}
use Rattle.skeleton.specs.document.Atom.{bonds, atom_at}
use Rattle.skeleton.specs.document.AtomMarks.{atoms}
use Rattle.letters.specs.document.Letters.{letters_of}
use Rattle.edge_list.specs.document.Letters.{letter_rows}
use Rattle.edge_list.specs.Letters.{letters_accepted}
use Rattle.form.specs.document.Labelled.{IsCentredₗ, row14ₗ}
use Rattle.form.specs.Labelled.{centred_formₗ, form_rowsₗ, form_sizeₗ}
use Rattle.form.specs.Accepted.{form_acceptedₗ}
use Rattle.lettered_check.specs.document.Lettered.{named_digit_rows}
use Rattle.texts.specs.document.Numerals.{Digit, Digits}
use Rattle.texts.specs.Damage.{Accept}
use Rattle.named_lines.specs.document.Named.{Named, named_table, lines_of_named}
use Rattle.named_lines.specs.NamedSound.{named_accept}
use Rattle.named.specs.Accepted.{some_bonds, digits_many, letters_many, tree_of, skeleton_of, few}
use Rattle.named.specs.Spelled.{spelled-marks}
use Rattle.named.specs.Decoded.{each-named}

-- a code as a named line carries it
abbrev pub record_of : List ℕ → Named
record_of c = record { digits = digits atoms c; letters = letters_of c }

module _ (N : ℕ) (E s : List ℕ) (k : Clear (letter_rows size valence N E 1 s)) (c : List ℕ) (x : IsCentredₗ atoms N E (atom_at s) c) where
  pub centred-rows : Clear (form_rowsₗ atoms (IsCentredₗ atoms) size valence bonds c)
  centred-rows = form_acceptedₗ atoms (IsCentredₗ atoms) (centred_formₗ atoms) c size valence bonds (omega arith) some_bonds N E (atom_at s) (skeleton_of N E 1 s k) ((letters_accepted size valence N E 1 s).0 k).3 x

  -- no row refuses its marks
  rows : Clear (row3 size (length c) ∷ mark_rows atoms valence bonds c)
  rows = clear_left (row3 size (length c) ∷ mark_rows atoms valence bonds c) (row14ₗ atoms (IsCentredₗ atoms) c ∷ []) centred-rows

  -- its digits are digits
  pub small-digits : Digits (digits atoms c)
  small-digits = each_of Digit (digits atoms c) (λ i l. low i l)
    where
      low : (i : ℕ) → i < length (digits atoms c) → get_or (digits atoms c) i 0 ≤ 9
      low i l =
          let h : cap valence (i + 1) < get_or (digits atoms c) i 0 → ⊥ = λ g. never (others rows) (i + 1) (omega arith, omega arith, let e : i + 1 - 1 ≡ i = omega arith in rw e g) in
          omega (arith, cap_most valence (i + 1))

  -- it has at most 64 marks
  pub few_marks : length c ≤ size
  few_marks = omega (arith, form_sizeₗ atoms (IsCentredₗ atoms) (centred_formₗ atoms) N E (atom_at s) c (tree_of N E 1 s k) x, few N E 1 s k)

  -- a named line may carry it
  pub centred_accept : Accept (lines_of_named size named_table) (record_of c)
  centred_accept =
      named_accept size named_table (record_of c) (omega (arith, digits_many c, at_least rows)) small-digits (each-named c) (letters_many c ∙ sym (digits_many c)) (omega (arith, digits_many c, few_marks)) (omega (arith, digits_many c, few_marks))
      (subst (λ z. Clear (named_digit_rows valence (digits atoms c) z ++ (row14ₗ atoms (IsCentredₗ atoms) z ∷ []))) (sym (spelled-marks c)) (others centred-rows))
