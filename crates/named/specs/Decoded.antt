-- Digits with letters that no row refuses, as the marks that they spell; and marks that no row refuses, as digits with letters. Assumes nothing.
use Rattle.std.specs.Prelude.{◌≡◌, refl, List, [], ◌∷◌, ℕ, zero, suc, ◌-◌, length, get_or}
use Rattle.std.proofs.Common.{sym, ap, ap₂, ◌∙◌, subst, arith}
use Rattle.std.proofs.Math.Decide.{ℕ_discrete}
use Rattle.laws.specs.document.Each.{Each}
use Rattle.refusal.specs.document.Table.{Clear, row3}
use Rattle.refusal.specs.Laws.{never, others, at_most, at_least, clear_one, clear_both, size_clear}
use Rattle.limits.specs.document.Limits.{size, valence}
use Rattle.limits.specs.Width.{width}
use Rattle.digit_code.specs.document.Code.{decode}
use Rattle.skeleton.specs.document.Skeleton.{IsSkeleton}
use Rattle.skeleton.specs.document.Label.{rootedₗ, digits, labels}
use Rattle.skeleton.specs.Label.{mark_rows, Valences}
use Rattle.skeleton.specs.document.Atom.{letter, Letter, atom_of, atom_at, bonds}
use Rattle.skeleton.specs.document.AtomMarks.{atoms}
use Rattle.skeleton.specs.Atoms.{letter_atom}
use Rattle.letters.specs.document.Letters.{letters_of, row2-letters, row21-letters}
use Rattle.letters.specs.Lettered.{Lettered, so_many, each-letter}
use Rattle.edge_list.specs.document.Letters.{letter_rows}
use Rattle.edge_list.specs.Letters.{letters_accepted}
use Rattle.edge_list.specs.Tables.{in_rows}
use Rattle.lettered_check.specs.document.Lettered.{marks_of, named_digit_rows, lettered_code_rows}
use Rattle.lettered_check.specs.Lettered.{marks-digits, length_marks}
use Rattle.named.specs.Accepted.{digits_many, letters_many, valences_of, decoded_of, itself_of}
use Rattle.named.specs.Spelled.{spelled-marks}

-- ---- letters

-- the atom of the i-th mark is that of the i-th letter
atoms-at : (ds ls : List ℕ) (i : ℕ) → length ls ≡ length ds → atoms.atom (get_or (marks_of ds ls) i 0) ≡ atom_of (get_or ls i 0)
unfolding marks_of atom_of ℕ_discrete
atoms-at [] [] i e = refl
atoms-at [] (b ∷ ls) i e = absurd (let z : ⊥ = omega arith in z)
atoms-at (d ∷ ds) [] i e = absurd (let z : ⊥ = omega arith in z)
atoms-at (d ∷ ds) (b ∷ ls) zero e = atoms.atom_mark d (atom_of b)
atoms-at (d ∷ ds) (b ∷ ls) (suc i) e = atoms-at ds ls i (omega arith)

-- the letters of the marks are these
letters-back : (ds ls : List ℕ) → length ls ≡ length ds → Each Letter ls → letters_of (marks_of ds ls) ≡ ls
unfolding letters_of marks_of
letters-back [] [] e f = refl
letters-back [] (b ∷ ls) e f = absurd (let z : ⊥ = omega arith in z)
letters-back (d ∷ ds) [] e f = absurd (let z : ⊥ = omega arith in z)
letters-back (d ∷ ds) (b ∷ ls) e ((a, q), f) =
    ap₂ ◌∷◌ (ap letter (atoms.atom_mark d (atom_of b) ∙ ap atom_of q ∙ letter_atom a) ∙ sym q) (letters-back ds ls (omega arith) f)

-- every letter of a code is one
pub each-named : (c : List ℕ) → Each Letter (letters_of c)
unfolding letters_of
each-named [] = tt
each-named (m ∷ c) = ((atoms.atom m, refl), each-named c)

-- ---- digits and letters as marks

module _ (ds ls : List ℕ) (k : Clear (lettered_code_rows size valence ds ls)) where
  abbrev c : List ℕ
  c = marks_of ds ls

  -- the letters name the atoms of as many vertices
  pub letters-of : Lettered (length ds) ls
  letters-of = record { many = so_many (length ds) ls (never (others (others k))); each = each-letter ls (never k) }

  pub marks_many : length c ≡ length ds
  marks_many = length_marks ds ls letters-of.many

  -- the digits are those of the marks, the letters too, and so are the atoms
  pub told-digits : ds ≡ digits atoms c
  unfolding digits
  told-digits = marks-digits ds ls letters-of.many

  pub told-letters : ls ≡ letters_of c
  told-letters = sym (letters-back ds ls letters-of.many letters-of.each)

  pub told-labels : labels atoms c ≡ atom_at ls
  unfolding labels
  told-labels = λ i v. atoms-at ds ls (v - 1) letters-of.many i

  pub marks_clear : Clear (row3 size (length c) ∷ mark_rows atoms valence bonds c)
  marks_clear =
      clear_both {xs = row3 size (length c) ∷ []} (size_clear (omega (arith, marks_many, at_least (others k))) (omega (arith, marks_many, at_most (others k))))
      (subst (λ (x : List ℕ). Clear (named_digit_rows valence x c)) told-digits (others (others (others k))))

  -- they decode to a skeleton
  pub its_skeleton : IsSkeleton size valence (length ds) (decode ds)
  its_skeleton = subst (λ (x : List ℕ). IsSkeleton size valence (length ds) (decode x)) (sym told-digits) (subst (λ n. IsSkeleton size valence n (decode (digits atoms c))) marks_many (decoded_of c marks_clear))

  pub marks-skeleton : IsSkeleton size width (length c) (decode ds)
  marks-skeleton = in_rows (omega arith) (subst (λ n. IsSkeleton size valence n (decode ds)) (sym marks_many) its_skeleton)

  -- which no row refuses with these letters
  pub its_rows : Clear (letter_rows size valence (length ds) (decode ds) 1 ls)
  its_rows =
      (letters_accepted size valence (length ds) (decode ds) 1 ls).1 (
        its_skeleton,
        (omega arith, at_least (others k)),
        letters-of,
        subst (λ (x : List ℕ). Valences atoms bonds (atom_at ls) (length ds) (decode x)) (sym told-digits)
            (subst (λ n. Valences atoms bonds (atom_at ls) n (decode (digits atoms c))) marks_many
            (subst (λ l. Valences atoms bonds l (length c) (decode (digits atoms c))) told-labels (valences_of c marks_clear).1)),
      )

  -- and whose code at vertex 1 they are
  pub its_code : rootedₗ atoms (atom_at ls) (length ds) (decode ds) 1 ≡ c
  its_code =
      subst (λ (x : List ℕ). rootedₗ atoms (atom_at ls) (length ds) (decode x) 1 ≡ c) (sym told-digits)
      (subst (λ n. rootedₗ atoms (atom_at ls) n (decode (digits atoms c)) 1 ≡ c) marks_many
      (subst (λ l. rootedₗ atoms l (length c) (decode (digits atoms c)) 1 ≡ c) told-labels (itself_of c marks_clear)))

-- ---- marks as digits and letters

module _ (c : List ℕ) (k : Clear (row3 size (length c) ∷ mark_rows atoms valence bonds c)) where
  pub spelled_clear : Clear (lettered_code_rows size valence (digits atoms c) (letters_of c))
  spelled_clear =
      clear_both (clear_one {r = row2-letters (letters_of c)} (λ p (z, f). f (each-named c)))
      (clear_both (clear_both {xs = row3 size (length (digits atoms c)) ∷ []} (size_clear (omega (arith, digits_many c, at_least k)) (omega (arith, digits_many c, at_most k)))
      (clear_one {r = row21-letters (length (digits atoms c)) (letters_of c)} (λ p (z, f). f (letters_many c ∙ sym (digits_many c)))))
      (subst (λ x. Clear (named_digit_rows valence (digits atoms c) x)) (sym (spelled-marks c)) (others k)))

  -- the atoms are those of the letters
  pub spelled-labels : labels atoms c ≡ atom_at (letters_of c)
  spelled-labels = subst (λ x. labels atoms x ≡ atom_at (letters_of c)) (spelled-marks c) (told-labels (digits atoms c) (letters_of c) spelled_clear)
