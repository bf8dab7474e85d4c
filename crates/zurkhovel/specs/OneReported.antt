-- Read from its promise alone, every public call that reports how many pairs it looked at has one possible result, its answer and the number, and
-- one possible state of its lent output. r, s: the call's own results; new, new': the output after it. Of the answer alone this is said in `One`,
-- `OneMaps`, `OneBits`, `OneMatrix` and `OneText`, which are cited here.
--
-- In order: the law; what is counted is one; the calls. Assumes nothing.
use Rattle.std.specs.Prelude.{Bool}
use Rattle.refusal.specs.declared.ListRefusal.{ListRefusal}
use Rattle.refusal.specs.declared.Reported.{Reported}
use Rattle.refusal.specs.document.Outcome.{told_of}
use Rattle.refusal.specs.document.Reported.{answer, pairs}
use Rattle.std.specs.Prelude.{Result}
use Rattle.refusal.specs.declared.Refusal.{Refusal}
use Rattle.std.specs.Prelude.{◌≡◌, refl, List, ℕ, ◌+◌, Float}
use Rattle.std.proofs.Common.{sym, ap₂, subst, ◌∙◌}
use Rattle.refusal.specs.document.Table.{Clear, OutcomeOf, Outcome, gives, refuses, Answered, Gives}
use Rattle.refusal.proofs.Apart.{reported_apart}
use Rattle.refusal.specs.document.Outcome.{told}
use Rattle.refusal.specs.Giving.{gave, gave_value}
use Rattle.form.specs.document.Form.{IsNTuple, IsCentred}
use Rattle.form_coder.specs.document.Pairs.{CentredPairs, NTuplePairs}
use Rattle.form_coder.specs.Sums.{one-over-middles, one-over-widest}
use Rattle.zurkhovel.specs.document.Codes.{RootedCode, FormCode}
use Rattle.zurkhovel.specs.document.Same.{Finding, SameSkeleton}
use Rattle.zurkhovel.specs.document.Maps.{MapOutcome, HandOut}
use Rattle.zurkhovel.specs.document.Bits.{Pack, Whole, InFraction}
use Rattle.zurkhovel.specs.document.Matrix.{CamByCode, ZeroAByCode, AZeroByCode}
use Rattle.zurkhovel.specs.document.Lines.{WriteLine}
use Rattle.zurkhovel.specs.document.Alike.{EqualVertices}
use Rattle.refusal.specs.document.Reported.{Reports, Reporting}
use Rattle.zurkhovel.specs.document.Reported.{ReportedAtRoot, SumOfBoth, OfBoth, coded, not_coded}
use Rattle.zurkhovel.specs.document.Tabled.{Tabled}
use Rattle.zurkhovel.specs.Tabled.{in-edition}
use Rattle.zurkhovel.specs.Theorems.{verdict-lists}
use Rattle.zurkhovel.specs.Threes.{handed-lists}
use Rattle.zurkhovel.specs.One as codes
use Rattle.zurkhovel.specs.OneMaps as maps
use Rattle.zurkhovel.specs.OneBits as bits
use Rattle.zurkhovel.specs.OneMatrix as matrix
use Rattle.zurkhovel.specs.OneText as text
use Rattle.limits.specs.document.Limits.{size}
use Rattle.zurkhovel.specs.document.InEdition.{EdgeTable, edge_table}

-- ---- the law

-- where something is given, what is counted is one
abbrev pub OneCount : {K A : Type 0} → (OutcomeOf K A → Type 0) → (ℕ → Type 0) → Type 0
OneCount {A = A} P Count = (a : A) → P (gives a) → (n m : ℕ) → Count n → Count m → n ≡ m

-- tell: what is told of a result
pub one_number :
    {R K A : Type 0} {P Q : OutcomeOf K A → Type 0} {Count : ℕ → Type 0} (tell : R → OutcomeOf K A) → OneCount P Count → (r s : R) (n m : ℕ) → r ≡ s
    → Reporting P Count (tell r) n → Reporting Q Count (tell s) m → n ≡ m
one_number {R} {K} {A} {P} {Q} {Count} tell one r s n m e x y = by (tell r) x.promised x.reported (subst (λ w. Reports Count (tell w) m) (sym e) y.reported)
  where
    by : (o : OutcomeOf K A) → P o → Reports Count o n → Reports Count o m → n ≡ m
    by (gives a) p x y = one a p n m x y
    by (refuses k j) p x y = x ∙ sym y

-- of a call that writes, where new and new' are what was lent
pub one_written :
    {P Q : Outcome ℕ → Type 0} {Count : ℕ → Type 0} {S : Type 0} {new new' : S} → ((r s : Result ℕ Refusal) → P (told r) → Q (told s) → (r ≡ s) × (new ≡ new'))
    → OneCount P Count → (r s : Result (Reported ℕ) Refusal) → Reporting P Count (told (answer r)) (pairs r) → Reporting Q Count (told (answer s)) (pairs s)
    → (r ≡ s) × (new ≡ new')
one_written f one r s x y =
    let (q, l) = f (answer r) (answer s) x.promised y.promised in
    (reported_apart r s q (one_number told one (answer r) (answer s) (pairs r) (pairs s) q x y), l)

-- of a call that is asked for a whole number
pub one-valued :
    {P : Outcome ℕ → Type 0} {Count : ℕ → Type 0} → ((r s : Result ℕ Refusal) → P (told r) → P (told s) → r ≡ s) → OneCount P Count → (r s : Result (Reported ℕ) Refusal)
    → Reporting P Count (told (answer r)) (pairs r) → Reporting P Count (told (answer s)) (pairs s) → r ≡ s
one-valued f one r s x y =
    let q = f (answer r) (answer s) x.promised y.promised in
    reported_apart r s q (one_number told one (answer r) (answer s) (pairs r) (pairs s) q x y)

-- of a call that is asked for a fraction
pub one-exact :
    {P : Outcome Float → Type 0} {Count : ℕ → Type 0} → ((r s : Result Float Refusal) → P (told r) → P (told s) → r ≡ s) → OneCount P Count → (r s : Result (Reported Float) Refusal)
    → Reporting P Count (told (answer r)) (pairs r) → Reporting P Count (told (answer s)) (pairs s) → r ≡ s
one-exact f one r s x y =
    let q = f (answer r) (answer s) x.promised y.promised in
    reported_apart r s q (one_number told one (answer r) (answer s) (pairs r) (pairs s) q x y)

-- of the verdict
pub one-verdict :
    {P : Finding → Type 0} {Count : ℕ → Type 0} → ((r s : Result Bool ListRefusal) → P (told_of r) → P (told_of s) → r ≡ s) → OneCount P Count → (r s : Result (Reported Bool) ListRefusal)
    → Reporting P Count (told_of (answer r)) (pairs r) → Reporting P Count (told_of (answer s)) (pairs s) → r ≡ s
one-verdict f one r s x y =
    let q = f (answer r) (answer s) x.promised y.promised in
    reported_apart r s q (one_number told_of one (answer r) (answer s) (pairs r) (pairs s) q x y)

-- of the call that hands out a map
pub one_mapping :
    {P Q : MapOutcome → Type 0} {Count : ℕ → Type 0} {new new' : List ℕ} → ((r s : Result ℕ ListRefusal) → P (told_of r) → Q (told_of s) → (r ≡ s) × (new ≡ new')) → OneCount P Count
    → (r s : Result (Reported ℕ) ListRefusal) → Reporting P Count (told_of (answer r)) (pairs r) → Reporting Q Count (told_of (answer s)) (pairs s) → (r ≡ s) × (new ≡ new')
one_mapping f one r s x y =
    let (q, l) = f (answer r) (answer s) x.promised y.promised in
    (reported_apart r s q (one_number told_of one (answer r) (answer s) (pairs r) (pairs s) q x y), l)

-- ---- what is counted

pub one-root : (N : ℕ) (E : List ℕ) (root n m : ℕ) → ReportedAtRoot N E root n → ReportedAtRoot N E root m → n ≡ m
one-root N E root n m x y = x ∙ sym y

-- of two lists, where it is one of each
pub one-sum :
    {N P : ℕ} {C D : ℕ → Type 0} → ((n m : ℕ) → C n → C m → n ≡ m) → ((n m : ℕ) → D n → D m → n ≡ m) → {n m : ℕ} → SumOfBoth N P C D n → SumOfBoth N P C D m → n ≡ m
one-sum one two (coded q u v) (coded f w z) = ap₂ ◌+◌ (one _ _ u w) (two _ _ v z)
one-sum one two (coded q u v) (not_coded f) = absurd (f q)
one-sum one two (not_coded q) (coded f w z) = absurd (q f)
one-sum one two (not_coded q) (not_coded f) = refl

module _ {T : EdgeTable} {R : ℕ} (t : Tabled T R) where
  -- of an accepted list
  one-centred : {most : ℕ} (N : ℕ) (E : List ℕ) → Clear (T most N E 1) → (n m : ℕ) → CentredPairs N E n → CentredPairs N E m → n ≡ m
  one-centred N E k n m x y = one-over-middles (t.skeleton N E 1 k).tree x y

  one-middles :
      {most N : ℕ} {E old new : List ℕ} {Right : List ℕ → Type 0} → OneCount (Gives (T most N E 1) Right old new) (CentredPairs N E)
  one-middles {N = N} {E} a p = one-centred N E (gave p).0

  one-middles-value : {most N : ℕ} {E : List ℕ} {A : Type 0} {Right : A → Type 0} → OneCount (Answered (T most N E 1) Right) (CentredPairs N E)
  one-middles-value {N = N} {E} a p = one-centred N E (gave_value p).0

  pub one-cam_by_code-reported :
      (N : ℕ) (E old new new' : List ℕ) (r s : Result (Reported ℕ) Refusal) → Reporting (CamByCode T N E old new) (CentredPairs N E) (told (answer r)) (pairs r)
      → Reporting (CamByCode T N E old new') (CentredPairs N E) (told (answer s)) (pairs s) → (r ≡ s) × (new ≡ new')
  one-cam_by_code-reported N E old new new' = one_written (matrix.one-cam_by_code t N E old new new') one-middles

  pub one_zero_a_by_code_reported :
      (N : ℕ) (E : List ℕ) (r s : Result (Reported ℕ) Refusal) → Reporting (ZeroAByCode T N E) (CentredPairs N E) (told (answer r)) (pairs r)
      → Reporting (ZeroAByCode T N E) (CentredPairs N E) (told (answer s)) (pairs s) → r ≡ s
  one_zero_a_by_code_reported N E = one-valued (matrix.one_zero_a_by_code t N E) one-middles-value

  pub one_a_zero_by_code_reported :
      (N : ℕ) (E : List ℕ) (r s : Result (Reported ℕ) Refusal) → Reporting (AZeroByCode T N E) (CentredPairs N E) (told (answer r)) (pairs r)
      → Reporting (AZeroByCode T N E) (CentredPairs N E) (told (answer s)) (pairs s) → r ≡ s
  one_a_zero_by_code_reported N E = one-valued (matrix.one_a_zero_by_code t N E) one-middles-value

  pub one-write-line-reported :
      (N : ℕ) (E old new new' : List ℕ) (r s : Result (Reported ℕ) Refusal) → Reporting (WriteLine T N E old new) (CentredPairs N E) (told (answer r)) (pairs r)
      → Reporting (WriteLine T N E old new') (CentredPairs N E) (told (answer s)) (pairs s) → (r ≡ s) × (new ≡ new')
  one-write-line-reported N E old new new' = one_written (text.one-write-line t N E old new new') one-middles

module _ (T : EdgeTable) where
  pub one-pack-reported :
      (N : ℕ) (E : List ℕ) (root : ℕ) (old new new' : List ℕ) (r s : Result (Reported ℕ) Refusal)
      → Reporting (Pack T N E root old new) (ReportedAtRoot N E root) (told (answer r)) (pairs r)
      → Reporting (Pack T N E root old new') (ReportedAtRoot N E root) (told (answer s)) (pairs s) → (r ≡ s) × (new ≡ new')
  one-pack-reported N E root old new new' = one_written (bits.one-pack T N E root old new new') (λ a p. one-root N E root)

  pub one-whole-reported :
      (N : ℕ) (E : List ℕ) (root : ℕ) (r s : Result (Reported ℕ) Refusal) → Reporting (Whole T N E root) (ReportedAtRoot N E root) (told (answer r)) (pairs r)
      → Reporting (Whole T N E root) (ReportedAtRoot N E root) (told (answer s)) (pairs s) → r ≡ s
  one-whole-reported N E root = one-valued (bits.one-whole T N E root) (λ a p. one-root N E root)

  pub one-fraction-reported :
      (N : ℕ) (E : List ℕ) (root : ℕ) (r s : Result (Reported Float) Refusal) → Reporting (InFraction T N E root) (ReportedAtRoot N E root) (told (answer r)) (pairs r)
      → Reporting (InFraction T N E root) (ReportedAtRoot N E root) (told (answer s)) (pairs s) → r ≡ s
  one-fraction-reported N E root = one-exact (bits.one-fraction T N E root) (λ a p. one-root N E root)

-- ---- the calls, in the edition e

module _ (e : ℕ) where
  -- of two
  one-both :
      {N P : ℕ} {E F : List ℕ} → Clear (edge_table e size N E 1) × Clear (edge_table e size P F 1) → {n m : ℕ} → OfBoth N E P F n → OfBoth N E P F m → n ≡ m
  one-both {N} {P} {E} {F} (k, l) = one-sum (one-centred (in-edition e) N E k) (one-centred (in-edition e) P F l)

  pub one-rooted-code-reported :
      (N : ℕ) (E : List ℕ) (root : ℕ) (old new new' : List ℕ) (r s : Result (Reported ℕ) Refusal)
      → Reporting (RootedCode e N E root old new) (ReportedAtRoot N E root) (told (answer r)) (pairs r)
      → Reporting (RootedCode e N E root old new') (ReportedAtRoot N E root) (told (answer s)) (pairs s) → (r ≡ s) × (new ≡ new')
  one-rooted-code-reported N E root old new new' = one_written (codes.one-rooted-code e N E root old new new') (λ a p. one-root N E root)

  pub one-n_tuple-code-reported :
      (N : ℕ) (E old new new' : List ℕ) (r s : Result (Reported ℕ) Refusal)
      → Reporting (FormCode e IsNTuple N E old new) (NTuplePairs N E) (told (answer r)) (pairs r)
      → Reporting (FormCode e IsNTuple N E old new') (NTuplePairs N E) (told (answer s)) (pairs s) → (r ≡ s) × (new ≡ new')
  one-n_tuple-code-reported N E old new new' = one_written (codes.one-n_tuple-code e N E old new new') (λ a p n m. one-over-widest)

  pub one-centred-code-reported :
      (N : ℕ) (E old new new' : List ℕ) (r s : Result (Reported ℕ) Refusal)
      → Reporting (FormCode e IsCentred N E old new) (CentredPairs N E) (told (answer r)) (pairs r)
      → Reporting (FormCode e IsCentred N E old new') (CentredPairs N E) (told (answer s)) (pairs s) → (r ≡ s) × (new ≡ new')
  one-centred-code-reported N E old new new' = one_written (codes.one-centred-code e N E old new new') (one-middles (in-edition e))

  pub one-same-skeleton-reported :
      (N : ℕ) (E : List ℕ) (P : ℕ) (F : List ℕ) (r s : Result (Reported Bool) ListRefusal)
      → Reporting (SameSkeleton e N E P F) (OfBoth N E P F) (told_of (answer r)) (pairs r)
      → Reporting (SameSkeleton e N E P F) (OfBoth N E P F) (told_of (answer s)) (pairs s) → r ≡ s
  one-same-skeleton-reported N E P F = one-verdict (codes.one-same-skeleton e N E P F) (λ a p n m. one-both (verdict-lists p))

  pub one-renumbering-reported :
      (N : ℕ) (E : List ℕ) (P : ℕ) (F old new new' : List ℕ) (r s : Result (Reported ℕ) ListRefusal)
      → Reporting (HandOut e N E P F old new) (OfBoth N E P F) (told_of (answer r)) (pairs r)
      → Reporting (HandOut e N E P F old new') (OfBoth N E P F) (told_of (answer s)) (pairs s) → (r ≡ s) × (new ≡ new')
  one-renumbering-reported N E P F old new new' = one_mapping (maps.one-renumbering e N E P F old new new') (λ a p n m. one-both (handed-lists p))

  pub one-equal-vertices-reported :
      (N : ℕ) (E old new new' : List ℕ) (r s : Result (Reported ℕ) Refusal) → Reporting (EqualVertices e N E old new) (CentredPairs N E) (told (answer r)) (pairs r)
      → Reporting (EqualVertices e N E old new') (CentredPairs N E) (told (answer s)) (pairs s) → (r ≡ s) × (new ≡ new')
  one-equal-vertices-reported N E old new new' = one_written (text.one-equal-vertices e N E old new new') (one-middles (in-edition e))
