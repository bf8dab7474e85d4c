-- Read from its promise alone, every C function has one possible answer and one possible state of what was lent to it. r, s: two answers to the
-- same input; new, new': the lent output after each. Each is the call's own theorem (`One` of the crate `zurkhovel`) through the packing; of a call that only checks, the law
-- that its theorem stands on (`one-check`, `one-map-check`), since C is told what `unwritten` makes of its result.
-- `zk_read_text`, `zk_count` and `zk_list` promise word for word what their calls do.
--
-- In order: the law for each kind of answer; the functions. Assumes nothing.
use Rattle.refusal.specs.declared.ListRefusal.{ListRefusal}
use Rattle.refusal.specs.declared.Refusal.{Refusal}
use Rattle.std.specs.Prelude.{◌≡◌, refl, List, ℕ, Float, Result, Ok, Err}
use Rattle.std.proofs.Common.{sym, ap, subst, ◌∙◌}
use Rattle.refusal.specs.document.Table.{OutcomeOf, Outcome, gives, refuses}
use Rattle.refusal.specs.document.Outcome.{told, told_of}
use Rattle.form.specs.document.Form.{IsNTuple, IsCentred}
use Rattle.zurkhovel.specs.document.Codes.{CheckCode, DecodeCode, DecodeForm, CheckEdges, RootedCode, FormCode}
use Rattle.zurkhovel.specs.document.Same.{Finding, SameSkeleton}
use Rattle.zurkhovel.specs.document.Maps.{MapOutcome, HandOut, CheckRenumbering}
use Rattle.zurkhovel.specs.document.Bits.{Pack, Unpack, Whole, Unwhole, InFraction, Unfraction}
use Rattle.zurkhovel.specs.document.Matrix.{DecodeCam, DecodeZeroA, DecodeAZero, Cam, ZeroA, AZero, CamByCode, ZeroAByCode, AZeroByCode}
use Rattle.zurkhovel.specs.document.Alike.{EqualVertices}
use Rattle.zurkhovel.specs.document.Lines.{ReadLine, WriteLine}
use Rattle.zurkhovel.specs.One as codes
use Rattle.zurkhovel.specs.OneBits as bits
use Rattle.zurkhovel.specs.OneMaps as carried
use Rattle.zurkhovel.specs.OneMatrix as matrix
use Rattle.zurkhovel.specs.OneText as text
use Rattle.zurkhovel.specs.document.InEdition.{EdgeTable}
use Rattle.zurkhovel.specs.document.Tabled.{Tabled}
use Rattle.packing.specs.document.Packing.{packed, truth, with_list, held, PackedAnswer, PackedFinding, PackedMapping, PackedValue}

-- ---- each kind of answer

-- the result that an outcome is told of
pub answer : {A : Type 0} (o : Outcome A) → (r : Result A Refusal) × (o ≡ told r)
answer (gives a) = (Ok a, refl)
answer (refuses k p) = (Err (record { row = k; place = p }), refl)

-- of a call with several lists
pub finding : {A : Type 0} (o : OutcomeOf (ℕ × ℕ) A) → (r : Result A ListRefusal) × (o ≡ told_of r)
finding (gives a) = (Ok a, refl)
finding (refuses (i, k) p) = (Err (record { list = i; refusal = record { row = k; place = p } }), refl)

-- a call that only checks
pub one-check :
    {P : Outcome ℕ → Type 0} → ((r s : Result ℕ Refusal) → P (told r) → P (told s) → r ≡ s) → (r s : ℕ) → PackedAnswer P r → PackedAnswer P s → r ≡ s
one-check {P} f r s (o, x, e) (q, y, g) =
    let (a, i) = answer o in
    let (b, j) = answer q in
    e ∙ ap (packed (λ k. k) (λ n. n)) (i ∙ ap told (f a b (subst P i x) (subst P j y)) ∙ sym j) ∙ sym g

-- a call that writes; Same: what was lent then holds the same
pub one_written :
    {P Q : Outcome ℕ → Type 0} {Same : Type 0} → ((r s : Result ℕ Refusal) → P (told r) → Q (told s) → (r ≡ s) × Same) → (r s : ℕ) → PackedAnswer P r → PackedAnswer Q s
    → (r ≡ s) × Same
one_written {P} {Q} f r s (o, x, e) (q, y, g) =
    let (a, i) = answer o in
    let (b, j) = answer q in
    let (h, l) = f a b (subst P i x) (subst Q j y) in
    (e ∙ ap (packed (λ k. k) (λ n. n)) (i ∙ ap told h ∙ sym j) ∙ sym g, l)

-- a call that is asked for a value, which the lent place then holds
pub one-held :
    {A : Type 0} {P : Outcome A → Type 0} → ((o q : Outcome A) → P o → P q → o ≡ q)
    → (old new new' : A) (r s : ℕ) → PackedValue P old new r → PackedValue P old new' s → (r ≡ s) × (new ≡ new')
one-held f old new new' r s (o, x, e, h) (q, y, g, l) =
    let same = f o q x y in
    (e ∙ ap (packed (λ k. k) (λ a. 0)) same ∙ sym g, h ∙ ap (held old) same ∙ sym l)

pub one_number : (P : Outcome ℕ → Type 0) → ((r s : Result ℕ Refusal) → P (told r) → P (told s) → r ≡ s) → (o q : Outcome ℕ) → P o → P q → o ≡ q
one_number P f o q x y =
    let (a, i) = answer o in
    let (b, j) = answer q in
    i ∙ ap told (f a b (subst P i x) (subst P j y)) ∙ sym j

one-exact : (P : Outcome Float → Type 0) → ((r s : Result Float Refusal) → P (told r) → P (told s) → r ≡ s) → (o q : Outcome Float) → P o → P q → o ≡ q
one-exact P f o q x y =
    let (a, i) = answer o in
    let (b, j) = answer q in
    i ∙ ap told (f a b (subst P i x) (subst P j y)) ∙ sym j

-- a call on maps that only checks
pub one-judged :
    {P : MapOutcome → Type 0} → ((r s : Result ℕ ListRefusal) → P (told_of r) → P (told_of s) → r ≡ s) → (r s : ℕ) → PackedMapping P r → PackedMapping P s → r ≡ s
one-judged {P} f r s (o, x, e) (q, y, g) =
    let (a, i) = finding o in
    let (b, j) = finding q in
    e ∙ ap (packed with_list (λ n. n)) (i ∙ ap told_of (f a b (subst P i x) (subst P j y)) ∙ sym j) ∙ sym g

-- ---- the functions, in the edition e

module _ (e : ℕ) where
  pub one_zk_check_code : (c : List ℕ) (r s : ℕ) → PackedAnswer (CheckCode e c) r → PackedAnswer (CheckCode e c) s → r ≡ s
  one_zk_check_code c = one-check codes.one-check

  pub one_zk_decode_code :
      (c : List ℕ) (old new new' : List ℕ) (r s : ℕ) → PackedAnswer (DecodeCode e c old new) r → PackedAnswer (DecodeCode e c old new') s
      → (r ≡ s) × (new ≡ new')
  one_zk_decode_code c old new new' = one_written (codes.one-decode-code e c old new new')

  pub one_zk_decode_n_tuple :
      (c : List ℕ) (old new new' : List ℕ) (r s : ℕ) → PackedAnswer (DecodeForm e IsNTuple c old new) r → PackedAnswer (DecodeForm e IsNTuple c old new') s
      → (r ≡ s) × (new ≡ new')
  one_zk_decode_n_tuple c old new new' = one_written (codes.one-decode-n_tuple e c old new new')

  pub one_zk_decode_centred :
      (c : List ℕ) (old new new' : List ℕ) (r s : ℕ) → PackedAnswer (DecodeForm e IsCentred c old new) r → PackedAnswer (DecodeForm e IsCentred c old new') s
      → (r ≡ s) × (new ≡ new')
  one_zk_decode_centred c old new new' = one_written (codes.one-decode-centred e c old new new')

  pub one_zk_check_edges : (N : ℕ) (E : List ℕ) (root : ℕ) (r s : ℕ) → PackedAnswer (CheckEdges e N E root) r → PackedAnswer (CheckEdges e N E root) s → r ≡ s
  one_zk_check_edges N E root = one-check codes.one-check

  pub one_zk_rooted_code :
      (N : ℕ) (E : List ℕ) (root : ℕ) (old new new' : List ℕ) (r s : ℕ) → PackedAnswer (RootedCode e N E root old new) r → PackedAnswer (RootedCode e N E root old new') s
      → (r ≡ s) × (new ≡ new')
  one_zk_rooted_code N E root old new new' = one_written (codes.one-rooted-code e N E root old new new')

  pub one_zk_n_tuple_code :
      (N : ℕ) (E : List ℕ) (old new new' : List ℕ) (r s : ℕ) → PackedAnswer (FormCode e IsNTuple N E old new) r → PackedAnswer (FormCode e IsNTuple N E old new') s
      → (r ≡ s) × (new ≡ new')
  one_zk_n_tuple_code N E old new new' = one_written (codes.one-n_tuple-code e N E old new new')

  pub one_zk_centred_code :
      (N : ℕ) (E : List ℕ) (old new new' : List ℕ) (r s : ℕ) → PackedAnswer (FormCode e IsCentred N E old new) r → PackedAnswer (FormCode e IsCentred N E old new') s
      → (r ≡ s) × (new ≡ new')
  one_zk_centred_code N E old new new' = one_written (codes.one-centred-code e N E old new new')

  pub one_zk_same_skeleton :
      (N : ℕ) (E : List ℕ) (P : ℕ) (F : List ℕ) (r s : ℕ) → PackedFinding (SameSkeleton e N E P F) r → PackedFinding (SameSkeleton e N E P F) s → r ≡ s
  one_zk_same_skeleton N E P F r s (o, x, z) (q, y, g) =
      let (a, i) = finding o in
      let (b, j) = finding q in
      z ∙ ap (packed with_list truth) (i ∙ ap told_of (codes.one-same-skeleton e N E P F a b (subst (SameSkeleton e N E P F) i x) (subst (SameSkeleton e N E P F) j y)) ∙ sym j) ∙ sym g

  pub one_zk_renumbering :
      (N : ℕ) (E : List ℕ) (P : ℕ) (F old new new' : List ℕ) (r s : ℕ) → PackedMapping (HandOut e N E P F old new) r → PackedMapping (HandOut e N E P F old new') s
      → (r ≡ s) × (new ≡ new')
  one_zk_renumbering N E P F old new new' r s (o, x, z) (q, y, g) =
      let (a, i) = finding o in
      let (b, j) = finding q in
      let (h, l) = carried.one-renumbering e N E P F old new new' a b (subst (HandOut e N E P F old new) i x) (subst (HandOut e N E P F old new') j y) in
      (z ∙ ap (packed with_list (λ n. n)) (i ∙ ap told_of h ∙ sym j) ∙ sym g, l)

  pub one_zk_check_renumbering :
      (N : ℕ) (E : List ℕ) (P : ℕ) (F w : List ℕ) (r s : ℕ) → PackedMapping (CheckRenumbering e N E P F w) r → PackedMapping (CheckRenumbering e N E P F w) s → r ≡ s
  one_zk_check_renumbering N E P F w = one-judged carried.one-map-check

  pub one_zk_unpack :
      (b : List ℕ) (old new new' : List ℕ) (r s : ℕ) → PackedAnswer (Unpack e b old new) r → PackedAnswer (Unpack e b old new') s
      → (r ≡ s) × (new ≡ new')
  one_zk_unpack b old new new' = one_written (bits.one-unpack e b old new new')

  pub one_zk_unwhole :
      (N : ℕ) (x : ℕ) (old new new' : List ℕ) (r s : ℕ) → PackedAnswer (Unwhole e N x old new) r → PackedAnswer (Unwhole e N x old new') s
      → (r ≡ s) × (new ≡ new')
  one_zk_unwhole N x old new new' = one_written (bits.one-unwhole e N x old new new')

  pub one_zk_unfraction :
      (x : Float) (old new new' : List ℕ) (r s : ℕ) → PackedAnswer (Unfraction e x old new) r → PackedAnswer (Unfraction e x old new') s
      → (r ≡ s) × (new ≡ new')
  one_zk_unfraction x old new new' = one_written (bits.one-unfraction e x old new new')

  pub one_zk_decode_cam :
      (N : ℕ) (c : List ℕ) (old new new' : List ℕ) (r s : ℕ) → PackedAnswer (DecodeCam e N c old new) r → PackedAnswer (DecodeCam e N c old new') s
      → (r ≡ s) × (new ≡ new')
  one_zk_decode_cam N c old new new' = one_written (matrix.one-decode-cam e N c old new new')

  pub one_zk_decode_zero_a :
      (N : ℕ) (x : ℕ) (old new new' : List ℕ) (r s : ℕ) → PackedAnswer (DecodeZeroA e N x old new) r → PackedAnswer (DecodeZeroA e N x old new') s
      → (r ≡ s) × (new ≡ new')
  one_zk_decode_zero_a N x old new new' = one_written (matrix.one-decode_zero_a e N x old new new')

  pub one_zk_decode_a_zero :
      (N : ℕ) (x : ℕ) (old new new' : List ℕ) (r s : ℕ) → PackedAnswer (DecodeAZero e N x old new) r → PackedAnswer (DecodeAZero e N x old new') s
      → (r ≡ s) × (new ≡ new')
  one_zk_decode_a_zero N x old new new' = one_written (matrix.one-decode_a_zero e N x old new new')

  pub one_zk_equal_vertices :
      (N : ℕ) (E : List ℕ) (old new new' : List ℕ) (r s : ℕ) → PackedAnswer (EqualVertices e N E old new) r → PackedAnswer (EqualVertices e N E old new') s
      → (r ≡ s) × (new ≡ new')
  one_zk_equal_vertices N E old new new' = one_written (text.one-equal-vertices e N E old new new')

  pub one_zk_read_line :
      (t : List ℕ) (old new new' : List ℕ) (r s : ℕ) → PackedAnswer (ReadLine e t old new) r → PackedAnswer (ReadLine e t old new') s
      → (r ≡ s) × (new ≡ new')
  one_zk_read_line t old new new' = one_written (text.one-read-line e t old new new')

-- ---- the forms of an edge list, over its table

module _ (T : EdgeTable) where
  pub one_zk_pack :
      (N : ℕ) (E : List ℕ) (root : ℕ) (old new new' : List ℕ) (r s : ℕ) → PackedAnswer (Pack T N E root old new) r → PackedAnswer (Pack T N E root old new') s
      → (r ≡ s) × (new ≡ new')
  one_zk_pack N E root old new new' = one_written (bits.one-pack T N E root old new new')

  pub one_zk_whole :
      (N : ℕ) (E : List ℕ) (root : ℕ) (old new new' : ℕ) (r s : ℕ) → PackedValue (Whole T N E root) old new r → PackedValue (Whole T N E root) old new' s
      → (r ≡ s) × (new ≡ new')
  one_zk_whole N E root = one-held (one_number (Whole T N E root) (bits.one-whole T N E root))

  pub one_zk_fraction :
      (N : ℕ) (E : List ℕ) (root : ℕ) (old new new' : Float) (r s : ℕ) → PackedValue (InFraction T N E root) old new r → PackedValue (InFraction T N E root) old new' s
      → (r ≡ s) × (new ≡ new')
  one_zk_fraction N E root = one-held (one-exact (InFraction T N E root) (bits.one-fraction T N E root))

  pub one_zk_cam :
      (N : ℕ) (E : List ℕ) (old new new' : List ℕ) (r s : ℕ) → PackedAnswer (Cam T N E old new) r → PackedAnswer (Cam T N E old new') s
      → (r ≡ s) × (new ≡ new')
  one_zk_cam N E old new new' = one_written (matrix.one-cam T N E old new new')

  pub one_zk_zero_a :
      (N : ℕ) (E : List ℕ) (old new new' : ℕ) (r s : ℕ) → PackedValue (ZeroA T N E) old new r → PackedValue (ZeroA T N E) old new' s
      → (r ≡ s) × (new ≡ new')
  one_zk_zero_a N E = one-held (one_number (ZeroA T N E) (matrix.one_zero_a T N E))

  pub one_zk_a_zero :
      (N : ℕ) (E : List ℕ) (old new new' : ℕ) (r s : ℕ) → PackedValue (AZero T N E) old new r → PackedValue (AZero T N E) old new' s
      → (r ≡ s) × (new ≡ new')
  one_zk_a_zero N E = one-held (one_number (AZero T N E) (matrix.one_a_zero T N E))

module _ {T : EdgeTable} {R : ℕ} (t : Tabled T R) where
  pub one_zk_cam_by_code :
      (N : ℕ) (E : List ℕ) (old new new' : List ℕ) (r s : ℕ) → PackedAnswer (CamByCode T N E old new) r → PackedAnswer (CamByCode T N E old new') s
      → (r ≡ s) × (new ≡ new')
  one_zk_cam_by_code N E old new new' = one_written (matrix.one-cam_by_code t N E old new new')

  pub one_zk_zero_a_by_code :
      (N : ℕ) (E : List ℕ) (old new new' : ℕ) (r s : ℕ) → PackedValue (ZeroAByCode T N E) old new r → PackedValue (ZeroAByCode T N E) old new' s
      → (r ≡ s) × (new ≡ new')
  one_zk_zero_a_by_code N E = one-held (one_number (ZeroAByCode T N E) (matrix.one_zero_a_by_code t N E))

  pub one_zk_a_zero_by_code :
      (N : ℕ) (E : List ℕ) (old new new' : ℕ) (r s : ℕ) → PackedValue (AZeroByCode T N E) old new r → PackedValue (AZeroByCode T N E) old new' s
      → (r ≡ s) × (new ≡ new')
  one_zk_a_zero_by_code N E = one-held (one_number (AZeroByCode T N E) (matrix.one_a_zero_by_code t N E))

  pub one_zk_write_line :
      (N : ℕ) (E : List ℕ) (old new new' : List ℕ) (r s : ℕ) → PackedAnswer (WriteLine T N E old new) r → PackedAnswer (WriteLine T N E old new') s
      → (r ≡ s) × (new ≡ new')
  one_zk_write_line N E old new new' = one_written (text.one-write-line t N E old new new')
