-- What every call on skeletons with named atoms tells fits into bytes, as `Places` of the crate `zurkhovel` has it of the plain calls. Read from the call's promise alone; o: what is told of its
-- result. That each table refuses so is in `Bounds`.
--
-- In order: how long what is written is; the calls on codes and edge lists; those on two lists; those on a line, and on equal vertices. Those of the forms that take carbon only are in
-- `PlacesCarbon`. Assumes nothing.
use Rattle.std.specs.Prelude.{◌≡◌, refl, List, [], ◌∷◌, ℕ, ◌≤◌, ◌<◌, length}
use Rattle.std.proofs.Common.{ap, ⊎_elim, arith}
use Rattle.refusal.specs.document.Table.{Row, Clear, Outcome, short}
use Rattle.refusal.specs.document.Both.{TwoOutputs}
use Rattle.refusal.specs.document.Small.{byte_values, Small, SmallOf, SmallAnswer}
use Rattle.refusal.specs.Laws.{never, others, clear_left, at_most}
use Rattle.refusal.specs.Bounded.{bounded_rows, small, small-check}
use Rattle.refusal.proofs.Bounded.{small-written}
use Rattle.refusal.proofs.Both.{small-both}
use Rattle.refusal.specs.Lists.{maps_clear}
use Rattle.limits.specs.document.Limits.{size, valence}
use Rattle.digit_code.specs.document.Code.{decode}
use Rattle.skeleton.specs.document.Atom.{atom_at}
use Rattle.skeleton.specs.document.AtomMarks.{atoms}
use Rattle.skeleton.specs.document.Label.{digits}
use Rattle.letters.specs.document.Letters.{letters_of}
use Rattle.letters.specs.Lettered.{so_many}
use Rattle.edge_list.specs.document.Letters.{letter_rows}
use Rattle.lettered_check.specs.document.Lettered.{lettered_code_rows}
use Rattle.form.specs.document.Labelled.{IsNTupleₗ, IsCentredₗ}
use Rattle.form.specs.Labelled.{IsFormₗ, n_tuple_formₗ, centred_formₗ, form_sizeₗ}
use Rattle.renumber.specs.document.Kept.{kept_rows, HandedKept}
use Rattle.texts.specs.document.Parts.{tally}
use Rattle.texts.specs.Numerals.{decimal-counts, count-short}
use Rattle.lines.specs.Plain.{line-short}
use Rattle.named_lines.specs.document.Named.{Named, named_line}
use Rattle.named_lines.specs.Finding.{tally_most}
use Rattle.named_lines.specs.NamedWriting.{count, line_long, count_long, counts_long}
use Rattle.zurkhovel.specs.document.Same.{Finding}
use Rattle.zurkhovel.specs.document.Maps.{MapOutcome}
use Rattle.zurkhovel.specs.Places.{edges-of}
use Rattle.named.specs.document.Codes.{Spelled, NamedForm, NamedCheckCode, NamedDecodeCode, NamedDecodeForm, NamedCheckEdges, NamedRootedCode, NamedFormCode}
use Rattle.named.specs.document.Same.{named_list_rows, NamedSameSkeleton, NamedHandOut, NamedCheckRenumbering}
use Rattle.named.specs.document.Text.{NamedWriteLine, NamedReadLine}
use Rattle.named.specs.document.Alike.{NamedEqualVertices}
use Rattle.named.specs.Accepted.{digits_many, letters_many, tree_of, few, rooted-size, whole_of}
use Rattle.named.specs.Two.{kept_length}
use Rattle.named.specs.Bounds.{letters_bounded, code_bounded, form_bounded, named_front, behind_named, named-digits, line_bounded, lists_bounded, maps_bounded, kept_bounded}

-- ---- how long

-- the edges and letters of a right code
decoded_few : (ds ls : List ℕ) → Clear (lettered_code_rows size valence ds ls) → (E l : List ℕ) → (E ≡ decode ds) × (l ≡ ls) → (length E < byte_values) × (length l < byte_values)
decoded_few ds ls k E l (e, f) = (
  omega (arith, ap length e, edges-of ds (whole_of ds ls k).0, at_most (others k)),
  omega (arith, ap length f, so_many (length ds) ls (never (others (others k))), at_most (others k)),
)

-- the digits and letters of a code of at most 64 marks
spelled_few : {Right : List ℕ → Type 0} → ((c : List ℕ) → Right c → length c ≤ size) → (d l : List ℕ) → Spelled Right d l → (length d < byte_values) × (length l < byte_values)
spelled_few f d l (c, x, e, g) = (omega (arith, ap length e, digits_many c, f c x), omega (arith, ap length g, letters_many c, f c x))

-- the code of a form of an accepted edge list
form_few :
    (form : NamedForm) → IsFormₗ atoms form → (N : ℕ) (E s : List ℕ) → Clear (letter_rows size valence N E 1 s) → (c : List ℕ) → form N E (atom_at s) c → length c ≤ size
form_few form f N E s k c x = omega (arith, form_sizeₗ atoms form f N E (atom_at s) c (tree_of N E 1 s k) x, few N E 1 s k)

-- a count of the letters, with its space
count_few : (a : ℕ) (ls : List ℕ) → length ls ≤ size → length (count a ls) ≤ 3
count_few a ls h = omega (arith, count_long a ls, count-short (decimal-counts (tally a ls) (omega (arith, tally_most a ls))))

-- a named line
named_few : (ds ls : List ℕ) → length ds ≤ size → length ls ≤ size → length (named_line ds ls) < byte_values
named_few ds ls h i = omega (arith, line_long ds ls, line-short ds (omega arith), counts_long ls, count_few 67 ls i, count_few 78 ls i, count_few 79 ls i)

-- ---- codes and edge lists

pub places-named-check-code : (ds ls : List ℕ) (o : Outcome ℕ) → NamedCheckCode ds ls o → SmallAnswer o
places-named-check-code ds ls o g = small-check (code_bounded ds ls) g

pub places-named-decode-code : (ds ls : List ℕ) (old new : TwoOutputs) (o : Outcome ℕ) → NamedDecodeCode ds ls old new o → SmallAnswer o
places-named-decode-code ds ls old new o g = small-both (code_bounded ds ls) (decoded_few ds ls) g

-- of either form
pub places-named-decode-form : (form : NamedForm) (ds ls : List ℕ) (old new : TwoOutputs) (o : Outcome ℕ) → NamedDecodeForm form ds ls old new o → SmallAnswer o
places-named-decode-form form ds ls old new o g =
    small-both (form_bounded form ds ls) (λ k. decoded_few ds ls (clear_left (lettered_code_rows size valence ds ls) _ k)) g

pub places-named-check-edges : (N : ℕ) (E s : List ℕ) (r : ℕ) (o : Outcome ℕ) → NamedCheckEdges N E s r o → SmallAnswer o
places-named-check-edges N E s r o g = small-check (letters_bounded (omega arith) N E r s) g

pub places-named-rooted-code : (N : ℕ) (E s : List ℕ) (r : ℕ) (old new : TwoOutputs) (o : Outcome ℕ) → NamedRootedCode N E s r old new o → SmallAnswer o
places-named-rooted-code N E s r old new o g =
    small-both (letters_bounded (omega arith) N E r s) (λ k. spelled_few (λ c e. omega (arith, ap length e, rooted-size N E r s k (atom_at s), few N E r s k))) g

places-named-form-code : (form : NamedForm) → IsFormₗ atoms form → (N : ℕ) (E s : List ℕ) (old new : TwoOutputs) (o : Outcome ℕ) → NamedFormCode form N E s old new o → SmallAnswer o
places-named-form-code form f N E s old new o g = small-both (letters_bounded (omega arith) N E 1 s) (λ k. spelled_few (form_few form f N E s k)) g

pub places-named-n_tuple-code : (N : ℕ) (E s : List ℕ) (old new : TwoOutputs) (o : Outcome ℕ) → NamedFormCode (IsNTupleₗ atoms) N E s old new o → SmallAnswer o
places-named-n_tuple-code = places-named-form-code (IsNTupleₗ atoms) (n_tuple_formₗ atoms)

pub places-named-centred-code : (N : ℕ) (E s : List ℕ) (old new : TwoOutputs) (o : Outcome ℕ) → NamedFormCode (IsCentredₗ atoms) N E s old new o → SmallAnswer o
places-named-centred-code = places-named-form-code (IsCentredₗ atoms) (centred_formₗ atoms)

-- ---- two lists

module _ (N : ℕ) (E s : List ℕ) (P : ℕ) (F u : List ℕ) where
  pub places-named-same-skeleton : (o : Finding) → NamedSameSkeleton N E s P F u o → Small (SmallOf 2) (λ same. Unit {0}) o
  places-named-same-skeleton o g = small (lists_bounded 2 (omega arith) N E s P F u) (λ k a r. tt) g

  -- the map that is handed out
  map_few : Clear (named_list_rows N E s) → (w : List ℕ) → HandedKept atoms (atom_at s) (atom_at u) N E P F w → length w < byte_values
  map_few k w x = omega (arith, kept_length N E s P F u w x, few N E 1 s k)

  pub places-named-renumbering : (old new : List ℕ) (o : MapOutcome) → NamedHandOut N E s P F u old new o → Small (SmallOf 3) (λ n. n < byte_values) o
  places-named-renumbering old new o g =
      let rs : List Row = short (HandedKept atoms (atom_at s) (atom_at u) N E P F) (length old) ∷ [] in
      small (maps_bounded N E s P F u rs refl (λ k. bounded_rows refl ((λ p (w, x, (e, l)). omega (arith, map_few k w x)), tt))) (λ c n h.
      let (z, k, l, m) = (maps_clear [] (named_list_rows N E s) (named_list_rows P F u) rs).0 c in
      ⊎_elim (λ w. let b : n < byte_values = omega (arith, w.count, map_few k w.result w.right) in b) (λ w. let b : n < byte_values = omega (arith, w.0) in b) h) g

  pub places-named-check-renumbering : (w : List ℕ) (o : MapOutcome) → NamedCheckRenumbering N E s P F u w o → Small (SmallOf 3) (λ n. n < byte_values) o
  places-named-check-renumbering w o g =
      small (maps_bounded N E s P F u (kept_rows (atom_at s) (atom_at u) N E P F w) refl (kept_bounded N E s P F u w)) (λ c n e. omega arith) g

-- ---- a line, and equal vertices

pub places-named-read-line : (t old letters old' letters' : List ℕ) (o : Outcome ℕ) → NamedReadLine t old letters old' letters' o → SmallAnswer o
places-named-read-line t old letters old' letters' o g =
    small (line_bounded t (old ∷ letters ∷ [])) (λ k n w.
    let f = clear_left (named_front t) (behind_named t (old ∷ letters ∷ [])) k in
    omega (arith, w.count, ap (λ (c : Named). length c.digits) w.right.holds, named-digits t f w.right.parts w.right.shape)) g

pub places-named-write-line : (N : ℕ) (E s old new : List ℕ) (o : Outcome ℕ) → NamedWriteLine N E s old new o → SmallAnswer o
places-named-write-line N E s old new o g =
    small-written (letters_bounded (omega arith) N E 1 s) (λ k l (c, x, q).
    let h = form_few (IsCentredₗ atoms) (centred_formₗ atoms) N E s k c x in
    omega (arith, ap length q, named_few (digits atoms c) (letters_of c) (omega (arith, digits_many c)) (omega (arith, letters_many c)))) g

pub places-named-equal-vertices : (N : ℕ) (E s old new : List ℕ) (o : Outcome ℕ) → NamedEqualVertices N E s old new o → SmallAnswer o
places-named-equal-vertices N E s old new o g =
    small-written (letters_bounded (omega arith) N E 1 s) (λ k l (c, x, b). omega (arith, b.count, form_few (IsCentredₗ atoms) (centred_formₗ atoms) N E s k c x)) g
