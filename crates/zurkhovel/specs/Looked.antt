-- Document 02, wish 6: the total "is at most 3 times N times the whole part of log2 N", and the sums "at most that bound for each" root. Of every
-- accepted skeleton, and then of what each call that orders children reports, read from its promise alone. 3 is one less than the neighbours that
-- edition 1 allows, and in edition 2 it is 8 (`three_times`, `eight_times`).
--
-- In order: of an accepted skeleton; the law for a report; the calls. n: the number reported with the answer o; k: at how many roots the code is
-- looked for, one or two for the centred code (`few_middles` of the crate `form_coder`). Assumes nothing.
use Rattle.std.specs.Prelude.{◌≡◌, refl, List, ℕ, ◌+◌, ◌*◌, ◌≤◌, Float}
use Rattle.std.proofs.Common.{arith}
use Rattle.refusal.specs.document.Table.{Clear, OutcomeOf, Outcome, gives, refuses, Answered, Gives}
use Rattle.refusal.specs.Giving.{gave, gave_value}
use Rattle.numbering.specs.document.Pairs.{rooted_pairs, log2}
use Rattle.numbering.proofs.Bound.{pairs_bound}
use Rattle.form.specs.document.Form.{IsNTuple, IsCentred}
use Rattle.form_coder.specs.document.Pairs.{CentredPairs, NTuplePairs, CentredRoots, NTupleRoots}
use Rattle.form_coder.specs.Sums.{centred_bound, n_tuple_bound}
use Rattle.zurkhovel.specs.document.Codes.{RootedCode, FormCode}
use Rattle.zurkhovel.specs.document.Same.{Finding, SameSkeleton}
use Rattle.zurkhovel.specs.document.Maps.{MapOutcome, HandOut}
use Rattle.zurkhovel.specs.document.Bits.{Pack, Whole, InFraction}
use Rattle.zurkhovel.specs.document.Matrix.{CamByCode, ZeroAByCode, AZeroByCode}
use Rattle.zurkhovel.specs.document.Lines.{WriteLine}
use Rattle.zurkhovel.specs.document.Alike.{EqualVertices}
use Rattle.refusal.specs.document.Reported.{Reporting}
use Rattle.zurkhovel.specs.document.Reported.{ReportedAtRoot, OfBoth, coded, not_coded, most_pairs}
use Rattle.zurkhovel.specs.document.Tabled.{Tabled}
use Rattle.zurkhovel.specs.Tabled.{in-edition}
use Rattle.zurkhovel.specs.Theorems.{verdict-lists}
use Rattle.zurkhovel.specs.Threes.{handed-lists}
use Rattle.limits.specs.document.Limits.{size}
use Rattle.edition.specs.document.Edition.{neighbours_in}
use Rattle.zurkhovel.specs.document.InEdition.{EdgeTable, edge_table}

pub three_times : (N : ℕ) → most_pairs (neighbours_in 1) N ≡ 3 * N * log2 N
unfolding neighbours_in
three_times N = refl

-- "In edition 2 the factor 3 in the count of digit pairs is 8."
pub eight_times : (N : ℕ) → most_pairs (neighbours_in 2) N ≡ 8 * N * log2 N
unfolding neighbours_in
eight_times N = refl

-- ---- the law for a report

-- where B bounds what is counted for what is given, it bounds what is reported
pub reported_most :
    {K A : Type 0} {P : OutcomeOf K A → Type 0} {Count : ℕ → Type 0} (B n : ℕ) → ((a : A) → P (gives a) → Count n → n ≤ B) → (o : OutcomeOf K A)
    → Reporting P Count o n → n ≤ B
reported_most B n f (gives a) g = f a g.promised g.reported
reported_most B n f (refuses k j) g = omega (arith, g.reported)

-- ---- over the table of the edge list

module _ {T : EdgeTable} {R : ℕ} (t : Tabled T R) where
  -- of an accepted skeleton

  module _ {most : ℕ} (N : ℕ) (E : List ℕ) where
    pub accepted_rooted : (r : ℕ) → Clear (T most N E r) → rooted_pairs N E r ≤ most_pairs R N
    accepted_rooted r c = let (h, k) = t.root N E r c in pairs_bound most R N E r (t.skeleton N E r c) h k

    pub accepted_centred : Clear (T most N E 1) → (n k : ℕ) → CentredPairs N E n → CentredRoots N E k → n ≤ k * most_pairs R N
    accepted_centred c n k x y = centred_bound most R N E (t.skeleton N E 1 c) n k x y

    pub accepted_n_tuple : Clear (T most N E 1) → (n k : ℕ) → NTuplePairs N E n → NTupleRoots N E k → n ≤ k * most_pairs R N
    accepted_n_tuple c n k x y = n_tuple_bound most R N E (t.skeleton N E 1 c) n k x y

  -- at a root
  root_most :
      {most N r : ℕ} (E : List ℕ) {old new : List ℕ} {Right : List ℕ → Type 0} (o : Outcome ℕ) (n : ℕ)
      → Reporting (Gives (T most N E r) Right old new) (ReportedAtRoot N E r) o n → n ≤ most_pairs R N
  root_most {N = N} {r} E o n = reported_most (most_pairs R N) n (λ a p x. rw x (accepted_rooted N E r (gave p).0)) o

  root-value_most :
      {A : Type 0} {most N r : ℕ} (E : List ℕ) {Right : A → Type 0} (o : Outcome A) (n : ℕ)
      → Reporting (Answered (T most N E r) Right) (ReportedAtRoot N E r) o n → n ≤ most_pairs R N
  root-value_most {N = N} {r} E o n = reported_most (most_pairs R N) n (λ a p x. rw x (accepted_rooted N E r (gave_value p).0)) o

  -- over the middles
  middles_most :
      {most N : ℕ} (E : List ℕ) {old new : List ℕ} {Right : List ℕ → Type 0} (o : Outcome ℕ) (n k : ℕ)
      → Reporting (Gives (T most N E 1) Right old new) (CentredPairs N E) o n → CentredRoots N E k → n ≤ k * most_pairs R N
  middles_most {N = N} E o n k g y = reported_most (k * most_pairs R N) n (λ a p x. accepted_centred N E (gave p).0 n k x y) o g

  middles-value_most :
      {A : Type 0} {most N : ℕ} (E : List ℕ) {Right : A → Type 0} (o : Outcome A) (n k : ℕ)
      → Reporting (Answered (T most N E 1) Right) (CentredPairs N E) o n → CentredRoots N E k → n ≤ k * most_pairs R N
  middles-value_most {N = N} E o n k g y = reported_most (k * most_pairs R N) n (λ a p x. accepted_centred N E (gave_value p).0 n k x y) o g

  -- ---- the calls on its forms

  pub looked-pack :
      (N : ℕ) (E : List ℕ) (r : ℕ) (old new : List ℕ) (o : Outcome ℕ) (n : ℕ) → Reporting (Pack T N E r old new) (ReportedAtRoot N E r) o n → n ≤ most_pairs R N
  looked-pack N E r old new = root_most E

  pub looked-whole : (N : ℕ) (E : List ℕ) (r : ℕ) (o : Outcome ℕ) (n : ℕ) → Reporting (Whole T N E r) (ReportedAtRoot N E r) o n → n ≤ most_pairs R N
  looked-whole N E r = root-value_most E

  pub looked-fraction : (N : ℕ) (E : List ℕ) (r : ℕ) (o : Outcome Float) (n : ℕ) → Reporting (InFraction T N E r) (ReportedAtRoot N E r) o n → n ≤ most_pairs R N
  looked-fraction N E r = root-value_most E

  pub looked-cam_by_code :
      (N : ℕ) (E old new : List ℕ) (o : Outcome ℕ) (n k : ℕ) → Reporting (CamByCode T N E old new) (CentredPairs N E) o n → CentredRoots N E k
      → n ≤ k * most_pairs R N
  looked-cam_by_code N E old new = middles_most E

  pub looked_zero_a_by_code :
      (N : ℕ) (E : List ℕ) (o : Outcome ℕ) (n k : ℕ) → Reporting (ZeroAByCode T N E) (CentredPairs N E) o n → CentredRoots N E k → n ≤ k * most_pairs R N
  looked_zero_a_by_code N E = middles-value_most E

  pub looked_a_zero_by_code :
      (N : ℕ) (E : List ℕ) (o : Outcome ℕ) (n k : ℕ) → Reporting (AZeroByCode T N E) (CentredPairs N E) o n → CentredRoots N E k → n ≤ k * most_pairs R N
  looked_a_zero_by_code N E = middles-value_most E

  pub looked-write-line :
      (N : ℕ) (E old new : List ℕ) (o : Outcome ℕ) (n k : ℕ) → Reporting (WriteLine T N E old new) (CentredPairs N E) o n → CentredRoots N E k
      → n ≤ k * most_pairs R N
  looked-write-line N E old new = middles_most E

-- ---- the calls, in the edition e

module _ (e : ℕ) where
  -- over the middles of both lists
  both_most :
      {K A : Type 0} {Q : OutcomeOf K A → Type 0} (N : ℕ) (E : List ℕ) (P : ℕ) (F : List ℕ) (o : OutcomeOf K A) (n j k : ℕ)
      → ((a : A) → Q (gives a) → Clear (edge_table e size N E 1) × Clear (edge_table e size P F 1)) → Reporting Q (OfBoth N E P F) o n → CentredRoots N E j → CentredRoots P F k
      → n ≤ j * most_pairs (neighbours_in e) N + k * most_pairs (neighbours_in e) P
  both_most N E P F o n j k lists g y z = reported_most (j * most_pairs (neighbours_in e) N + k * most_pairs (neighbours_in e) P) n (λ a p x. by (lists a p) x) o g
    where
      by : {n : ℕ} → Clear (edge_table e size N E 1) × Clear (edge_table e size P F 1) → OfBoth N E P F n → n ≤ j * most_pairs (neighbours_in e) N + k * most_pairs (neighbours_in e) P
      by (c, d) (coded q u v) = omega (arith, accepted_centred (in-edition e) N E c _ j u y, accepted_centred (in-edition e) P F d _ k v z)
      by c (not_coded q) = omega arith

  pub looked-rooted-code :
      (N : ℕ) (E : List ℕ) (r : ℕ) (old new : List ℕ) (o : Outcome ℕ) (n : ℕ) → Reporting (RootedCode e N E r old new) (ReportedAtRoot N E r) o n → n ≤ most_pairs (neighbours_in e) N
  looked-rooted-code N E r old new = root_most (in-edition e) E

  pub looked-n_tuple-code :
      (N : ℕ) (E old new : List ℕ) (o : Outcome ℕ) (n k : ℕ) → Reporting (FormCode e IsNTuple N E old new) (NTuplePairs N E) o n → NTupleRoots N E k
      → n ≤ k * most_pairs (neighbours_in e) N
  looked-n_tuple-code N E old new o n k g y = reported_most (k * most_pairs (neighbours_in e) N) n (λ a p x. accepted_n_tuple (in-edition e) N E (gave p).0 n k x y) o g

  pub looked-centred-code :
      (N : ℕ) (E old new : List ℕ) (o : Outcome ℕ) (n k : ℕ) → Reporting (FormCode e IsCentred N E old new) (CentredPairs N E) o n → CentredRoots N E k
      → n ≤ k * most_pairs (neighbours_in e) N
  looked-centred-code N E old new = middles_most (in-edition e) E

  -- both lists' sum, at most the bound for each root of each
  pub looked-same-skeleton :
      (N : ℕ) (E : List ℕ) (P : ℕ) (F : List ℕ) (o : Finding) (n j k : ℕ) → Reporting (SameSkeleton e N E P F) (OfBoth N E P F) o n
      → CentredRoots N E j → CentredRoots P F k → n ≤ j * most_pairs (neighbours_in e) N + k * most_pairs (neighbours_in e) P
  looked-same-skeleton N E P F o n j k = both_most N E P F o n j k (λ a. verdict-lists)

  pub looked-renumbering :
      (N : ℕ) (E : List ℕ) (P : ℕ) (F old new : List ℕ) (o : MapOutcome) (n j k : ℕ) → Reporting (HandOut e N E P F old new) (OfBoth N E P F) o n
      → CentredRoots N E j → CentredRoots P F k → n ≤ j * most_pairs (neighbours_in e) N + k * most_pairs (neighbours_in e) P
  looked-renumbering N E P F old new o n j k = both_most N E P F o n j k (λ a. handed-lists)

  pub looked-equal-vertices :
      (N : ℕ) (E old new : List ℕ) (o : Outcome ℕ) (n k : ℕ) → Reporting (EqualVertices e N E old new) (CentredPairs N E) o n → CentredRoots N E k
      → n ≤ k * most_pairs (neighbours_in e) N
  looked-equal-vertices N E old new = middles_most (in-edition e) E
