-- Read from its promise alone, every C function that hands over how many pairs were looked at has one possible answer, one possible state of what was
-- lent to it, and one number. r, s: two answers to the same input; new, new': the lent output, or place of a value, after each; m, m': the number. Each
-- is the call's own theorem (`OneReported` of the crate `zurkhovel`) through the packing.
--
-- In order: the law for each kind of answer; the functions. Assumes nothing.
use Rattle.refusal.specs.declared.Refusal.{Refusal}
use Rattle.refusal.specs.declared.ListRefusal.{ListRefusal}
use Rattle.refusal.specs.declared.Reported.{Reported}
use Rattle.std.specs.Prelude.{◌≡◌, refl, Bool, List, ℕ, Float, Result, Ok, Err}
use Rattle.std.proofs.Common.{sym, ap, subst, ◌∙◌}
use Rattle.refusal.specs.document.Table.{OutcomeOf, Outcome, gives, refuses}
use Rattle.refusal.specs.document.Outcome.{told, told_of}
use Rattle.form.specs.document.Form.{IsNTuple, IsCentred}
use Rattle.form_coder.specs.document.Pairs.{CentredPairs, NTuplePairs}
use Rattle.zurkhovel.specs.document.Codes.{RootedCode, FormCode}
use Rattle.zurkhovel.specs.document.Same.{Finding, SameSkeleton}
use Rattle.zurkhovel.specs.document.Maps.{MapOutcome, HandOut}
use Rattle.zurkhovel.specs.document.Bits.{Pack, Whole, InFraction}
use Rattle.zurkhovel.specs.document.Matrix.{CamByCode, ZeroAByCode, AZeroByCode}
use Rattle.zurkhovel.specs.document.Alike.{EqualVertices}
use Rattle.zurkhovel.specs.document.Lines.{WriteLine}
use Rattle.refusal.specs.document.Reported.{answer, pairs, Reporting}
use Rattle.zurkhovel.specs.document.Reported.{ReportedAtRoot, OfBoth}
use Rattle.zurkhovel.specs.OneReported as calls
use Rattle.zurkhovel.specs.document.InEdition.{EdgeTable}
use Rattle.zurkhovel.specs.document.Tabled.{Tabled}
use Rattle.packing.specs.document.Packing.{packed, truth, with_list, held, PackedAnswer, PackedFinding, PackedMapping, PackedValue}

-- ---- each kind of answer

-- the result that an outcome is told of, with the number that is reported
pub reported_answer :
    {A : Type 0} {P : Outcome A → Type 0} {Count : ℕ → Type 0} (o : Outcome A) (m : ℕ) → Reporting P Count o m
    → (r : Result (Reported A) Refusal) × (o ≡ told (answer r)) × (m ≡ pairs r)
reported_answer (gives a) m x = (Ok (record { value = a; pairs = m }), refl, refl)
reported_answer (refuses k p) m x = (Err (record { row = k; place = p }), refl, x.reported)

-- of a call with several lists
pub reported_finding :
    {A : Type 0} {P : OutcomeOf (ℕ × ℕ) A → Type 0} {Count : ℕ → Type 0} (o : OutcomeOf (ℕ × ℕ) A) (m : ℕ) → Reporting P Count o m
    → (r : Result (Reported A) ListRefusal) × (o ≡ told_of (answer r)) × (m ≡ pairs r)
reported_finding (gives a) m x = (Ok (record { value = a; pairs = m }), refl, refl)
reported_finding (refuses (i, k) p) m x = (Err (record { list = i; refusal = record { row = k; place = p } }), refl, x.reported)

-- a promise of what is told, and what is reported, of a result
carried : {K A : Type 0} {P : OutcomeOf K A → Type 0} {Count : ℕ → Type 0} {o q : OutcomeOf K A} {m n : ℕ} → o ≡ q → m ≡ n → Reporting P Count o m → Reporting P Count q n
carried {P = P} {Count} {q = q} {m} i e x = subst (λ (k : ℕ). Reporting P Count q k) e (subst (λ w. Reporting P Count w m) i x)

-- a call that writes; Same: what was lent then holds the same
pub one_written :
    {P Q : Outcome ℕ → Type 0} {Count : ℕ → Type 0} {Same : Type 0}
    → ((r s : Result (Reported ℕ) Refusal) → Reporting P Count (told (answer r)) (pairs r) → Reporting Q Count (told (answer s)) (pairs s) → (r ≡ s) × Same)
    → (m m' r s : ℕ) → PackedAnswer (λ o. Reporting P Count o m) r → PackedAnswer (λ o. Reporting Q Count o m') s → (r ≡ s) × Same × (m ≡ m')
one_written f m m' r s (o, x, e) (q, y, g) =
    let (a, i, u) = reported_answer o m x in
    let (b, j, v) = reported_answer q m' y in
    let (h, l) = f a b (carried i u x) (carried j v y) in
    (e ∙ ap (packed (λ k. k) (λ n. n)) (i ∙ ap (λ w. told (answer w)) h ∙ sym j) ∙ sym g, l, u ∙ ap (λ w. pairs w) h ∙ sym v)

-- a call that is asked for a value, which the lent place then holds
pub one-held :
    {A : Type 0} {P : Outcome A → Type 0} {Count : ℕ → Type 0}
    → ((o q : Outcome A) (m m' : ℕ) → Reporting P Count o m → Reporting P Count q m' → (o ≡ q) × (m ≡ m'))
    → (old new new' : A) (m m' r s : ℕ) → PackedValue (λ o. Reporting P Count o m) old new r → PackedValue (λ o. Reporting P Count o m') old new' s
    → (r ≡ s) × (new ≡ new') × (m ≡ m')
one-held f old new new' m m' r s (o, x, e, h) (q, y, g, l) =
    let (same, count) = f o q m m' x y in
    (e ∙ ap (packed (λ k. k) (λ a. 0)) same ∙ sym g, h ∙ ap (held old) same ∙ sym l, count)

pub one_number :
    {A : Type 0} {P : Outcome A → Type 0} {Count : ℕ → Type 0}
    → ((r s : Result (Reported A) Refusal) → Reporting P Count (told (answer r)) (pairs r) → Reporting P Count (told (answer s)) (pairs s) → r ≡ s)
    → (o q : Outcome A) (m m' : ℕ) → Reporting P Count o m → Reporting P Count q m' → (o ≡ q) × (m ≡ m')
one_number f o q m m' x y =
    let (a, i, u) = reported_answer o m x in
    let (b, j, v) = reported_answer q m' y in
    let h = f a b (carried i u x) (carried j v y) in
    (i ∙ ap (λ w. told (answer w)) h ∙ sym j, u ∙ ap (λ w. pairs w) h ∙ sym v)

-- the verdict
pub one_found :
    {P : Finding → Type 0} {Count : ℕ → Type 0}
    → ((r s : Result (Reported Bool) ListRefusal) → Reporting P Count (told_of (answer r)) (pairs r) → Reporting P Count (told_of (answer s)) (pairs s) → r ≡ s)
    → (m m' r s : ℕ) → PackedFinding (λ o. Reporting P Count o m) r → PackedFinding (λ o. Reporting P Count o m') s → (r ≡ s) × (m ≡ m')
one_found f m m' r s (o, x, e) (q, y, g) =
    let (a, i, u) = reported_finding o m x in
    let (b, j, v) = reported_finding q m' y in
    let h = f a b (carried i u x) (carried j v y) in
    (e ∙ ap (packed with_list truth) (i ∙ ap (λ w. told_of (answer w)) h ∙ sym j) ∙ sym g, u ∙ ap (λ w. pairs w) h ∙ sym v)

-- a call that hands out a map
pub one-handed :
    {P Q : MapOutcome → Type 0} {Count : ℕ → Type 0} {Same : Type 0}
    → ((r s : Result (Reported ℕ) ListRefusal) → Reporting P Count (told_of (answer r)) (pairs r) → Reporting Q Count (told_of (answer s)) (pairs s) → (r ≡ s) × Same)
    → (m m' r s : ℕ) → PackedMapping (λ o. Reporting P Count o m) r → PackedMapping (λ o. Reporting Q Count o m') s → (r ≡ s) × Same × (m ≡ m')
one-handed f m m' r s (o, x, e) (q, y, g) =
    let (a, i, u) = reported_finding o m x in
    let (b, j, v) = reported_finding q m' y in
    let (h, l) = f a b (carried i u x) (carried j v y) in
    (e ∙ ap (packed with_list (λ n. n)) (i ∙ ap (λ w. told_of (answer w)) h ∙ sym j) ∙ sym g, l, u ∙ ap (λ w. pairs w) h ∙ sym v)

-- ---- the functions, in the edition e

module _ (e : ℕ) where
  pub one_zk_rooted_code_pairs :
      (N : ℕ) (E : List ℕ) (root : ℕ) (old new new' : List ℕ) (m m' r s : ℕ) → PackedAnswer (λ o. Reporting (RootedCode e N E root old new) (ReportedAtRoot N E root) o m) r
      → PackedAnswer (λ o. Reporting (RootedCode e N E root old new') (ReportedAtRoot N E root) o m') s → (r ≡ s) × (new ≡ new') × (m ≡ m')
  one_zk_rooted_code_pairs N E root old new new' = one_written (calls.one-rooted-code-reported e N E root old new new')

  pub one_zk_n_tuple_code_pairs :
      (N : ℕ) (E : List ℕ) (old new new' : List ℕ) (m m' r s : ℕ) → PackedAnswer (λ o. Reporting (FormCode e IsNTuple N E old new) (NTuplePairs N E) o m) r
      → PackedAnswer (λ o. Reporting (FormCode e IsNTuple N E old new') (NTuplePairs N E) o m') s → (r ≡ s) × (new ≡ new') × (m ≡ m')
  one_zk_n_tuple_code_pairs N E old new new' = one_written (calls.one-n_tuple-code-reported e N E old new new')

  pub one_zk_centred_code_pairs :
      (N : ℕ) (E : List ℕ) (old new new' : List ℕ) (m m' r s : ℕ) → PackedAnswer (λ o. Reporting (FormCode e IsCentred N E old new) (CentredPairs N E) o m) r
      → PackedAnswer (λ o. Reporting (FormCode e IsCentred N E old new') (CentredPairs N E) o m') s → (r ≡ s) × (new ≡ new') × (m ≡ m')
  one_zk_centred_code_pairs N E old new new' = one_written (calls.one-centred-code-reported e N E old new new')

  pub one_zk_same_skeleton_pairs :
      (N : ℕ) (E : List ℕ) (P : ℕ) (F : List ℕ) (m m' r s : ℕ) → PackedFinding (λ o. Reporting (SameSkeleton e N E P F) (OfBoth N E P F) o m) r
      → PackedFinding (λ o. Reporting (SameSkeleton e N E P F) (OfBoth N E P F) o m') s → (r ≡ s) × (m ≡ m')
  one_zk_same_skeleton_pairs N E P F = one_found (calls.one-same-skeleton-reported e N E P F)

  pub one_zk_renumbering_pairs :
      (N : ℕ) (E : List ℕ) (P : ℕ) (F old new new' : List ℕ) (m m' r s : ℕ) → PackedMapping (λ o. Reporting (HandOut e N E P F old new) (OfBoth N E P F) o m) r
      → PackedMapping (λ o. Reporting (HandOut e N E P F old new') (OfBoth N E P F) o m') s → (r ≡ s) × (new ≡ new') × (m ≡ m')
  one_zk_renumbering_pairs N E P F old new new' = one-handed (calls.one-renumbering-reported e N E P F old new new')

  pub one_zk_equal_vertices_pairs :
      (N : ℕ) (E : List ℕ) (old new new' : List ℕ) (m m' r s : ℕ) → PackedAnswer (λ o. Reporting (EqualVertices e N E old new) (CentredPairs N E) o m) r
      → PackedAnswer (λ o. Reporting (EqualVertices e N E old new') (CentredPairs N E) o m') s → (r ≡ s) × (new ≡ new') × (m ≡ m')
  one_zk_equal_vertices_pairs N E old new new' = one_written (calls.one-equal-vertices-reported e N E old new new')

-- ---- the forms of an edge list, over its table

module _ (T : EdgeTable) where
  pub one_zk_pack_pairs :
      (N : ℕ) (E : List ℕ) (root : ℕ) (old new new' : List ℕ) (m m' r s : ℕ) → PackedAnswer (λ o. Reporting (Pack T N E root old new) (ReportedAtRoot N E root) o m) r
      → PackedAnswer (λ o. Reporting (Pack T N E root old new') (ReportedAtRoot N E root) o m') s → (r ≡ s) × (new ≡ new') × (m ≡ m')
  one_zk_pack_pairs N E root old new new' = one_written (calls.one-pack-reported T N E root old new new')

  pub one_zk_whole_pairs :
      (N : ℕ) (E : List ℕ) (root : ℕ) (old new new' : ℕ) (m m' r s : ℕ) → PackedValue (λ o. Reporting (Whole T N E root) (ReportedAtRoot N E root) o m) old new r
      → PackedValue (λ o. Reporting (Whole T N E root) (ReportedAtRoot N E root) o m') old new' s → (r ≡ s) × (new ≡ new') × (m ≡ m')
  one_zk_whole_pairs N E root = one-held (one_number (calls.one-whole-reported T N E root))

  pub one_zk_fraction_pairs :
      (N : ℕ) (E : List ℕ) (root : ℕ) (old new new' : Float) (m m' r s : ℕ) → PackedValue (λ o. Reporting (InFraction T N E root) (ReportedAtRoot N E root) o m) old new r
      → PackedValue (λ o. Reporting (InFraction T N E root) (ReportedAtRoot N E root) o m') old new' s → (r ≡ s) × (new ≡ new') × (m ≡ m')
  one_zk_fraction_pairs N E root = one-held (one_number (calls.one-fraction-reported T N E root))

module _ {T : EdgeTable} {R : ℕ} (t : Tabled T R) where
  pub one_zk_cam_by_code_pairs :
      (N : ℕ) (E : List ℕ) (old new new' : List ℕ) (m m' r s : ℕ) → PackedAnswer (λ o. Reporting (CamByCode T N E old new) (CentredPairs N E) o m) r
      → PackedAnswer (λ o. Reporting (CamByCode T N E old new') (CentredPairs N E) o m') s → (r ≡ s) × (new ≡ new') × (m ≡ m')
  one_zk_cam_by_code_pairs N E old new new' = one_written (calls.one-cam_by_code-reported t N E old new new')

  pub one_zk_zero_a_by_code_pairs :
      (N : ℕ) (E : List ℕ) (old new new' : ℕ) (m m' r s : ℕ) → PackedValue (λ o. Reporting (ZeroAByCode T N E) (CentredPairs N E) o m) old new r
      → PackedValue (λ o. Reporting (ZeroAByCode T N E) (CentredPairs N E) o m') old new' s → (r ≡ s) × (new ≡ new') × (m ≡ m')
  one_zk_zero_a_by_code_pairs N E = one-held (one_number (calls.one_zero_a_by_code_reported t N E))

  pub one_zk_a_zero_by_code_pairs :
      (N : ℕ) (E : List ℕ) (old new new' : ℕ) (m m' r s : ℕ) → PackedValue (λ o. Reporting (AZeroByCode T N E) (CentredPairs N E) o m) old new r
      → PackedValue (λ o. Reporting (AZeroByCode T N E) (CentredPairs N E) o m') old new' s → (r ≡ s) × (new ≡ new') × (m ≡ m')
  one_zk_a_zero_by_code_pairs N E = one-held (one_number (calls.one_a_zero_by_code_reported t N E))

  pub one_zk_write_line_pairs :
      (N : ℕ) (E : List ℕ) (old new new' : List ℕ) (m m' r s : ℕ) → PackedAnswer (λ o. Reporting (WriteLine T N E old new) (CentredPairs N E) o m) r
      → PackedAnswer (λ o. Reporting (WriteLine T N E old new') (CentredPairs N E) o m') s → (r ≡ s) × (new ≡ new') × (m ≡ m')
  one_zk_write_line_pairs N E old new new' = one_written (calls.one-write-line-reported t N E old new new')
