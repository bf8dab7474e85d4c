-- The bound of wish 6 for skeletons with named atoms: a pair looked at is digit and atom of one vertex, and there are at most 3 times N times the whole part of log2 N of them for each root, since an atom has at most
-- four neighbours. Of every accepted list with letters, then of what each call that reports does report. Assumes nothing.
use Rattle.std.proofs.Common.{subst, arith}
use Rattle.std.specs.Prelude.{List, [], ◌∷◌, ℕ, ◌+◌, ◌*◌, ◌≤◌, length}
use Rattle.refusal.specs.document.Table.{Clear, OutcomeOf, Outcome, gives, kept, short}
use Rattle.refusal.specs.document.Both.{TwoOutputs}
use Rattle.refusal.specs.Giving.{gave}
use Rattle.refusal.specs.Both.{gave_both}
use Rattle.refusal.specs.Lists.{lists_clear, maps_clear}
use Rattle.limits.specs.document.Limits.{size, valence}
use Rattle.skeleton.specs.document.Atom.{atom_at}
use Rattle.skeleton.specs.document.AtomMarks.{atoms}
use Rattle.numbering.specs.document.Pairs.{rooted_pairsₗ}
use Rattle.numbering.proofs.Bound.{pairsₗ_bound}
use Rattle.numbering.proofs.Pairs.{pairs_countedₗ}
use Rattle.edge_list.specs.document.Letters.{letter_rows}
use Rattle.form.specs.document.Labelled.{IsNTupleₗ, IsCentredₗ}
use Rattle.form_coder.specs.document.Pairs.{CentredRoots, NTupleRoots}
use Rattle.form_coder.specs.Sums.{over-middles_bound, over-widest_bound}
use Rattle.renumber.specs.document.Kept.{HandedKept}
use Rattle.zurkhovel.specs.document.Same.{Finding}
use Rattle.zurkhovel.specs.document.Maps.{MapOutcome}
use Rattle.refusal.specs.document.Reported.{Reporting}
use Rattle.zurkhovel.specs.document.Reported.{coded, not_coded, most_pairs}
use Rattle.zurkhovel.specs.Looked.{reported_most}
use Rattle.named.specs.document.Codes.{NamedRootedCode, NamedFormCode, NamedAtRoot, NamedWidest, NamedMiddles}
use Rattle.named.specs.document.Same.{named_list_rows, NamedSameSkeleton, NamedHandOut, NamedOfBoth}
use Rattle.named.specs.document.Text.{NamedWriteLine}
use Rattle.named.specs.document.Alike.{NamedEqualVertices}
use Rattle.named.specs.Accepted.{skeleton_of, tree_of, root_of}

-- ---- of an accepted list

module _ (N : ℕ) (E s : List ℕ) where
  at_most : (r : ℕ) → Clear (letter_rows size valence N E r s) → (v : ℕ) → 1 ≤ v → v ≤ N → rooted_pairsₗ atoms (atom_at s) N E v ≤ most_pairs valence N
  at_most r k v a b =
      subst (λ n. n ≤ most_pairs valence N) (pairs_countedₗ atoms (atom_at s) N E v (tree_of N E r s k) a b)
      (pairsₗ_bound atoms (atom_at s) valence N E v (tree_of N E r s k) (skeleton_of N E r s k).degrees a b)

  pub accepted_named_rooted : (r : ℕ) → Clear (letter_rows size valence N E r s) → rooted_pairsₗ atoms (atom_at s) N E r ≤ most_pairs valence N
  accepted_named_rooted r k = let (a, b) = root_of N E r s k in at_most r k r a b

  pub accepted_named_centred : Clear (named_list_rows N E s) → (n k : ℕ) → NamedMiddles N E s n → CentredRoots N E k → n ≤ k * most_pairs valence N
  accepted_named_centred c n k x y = over-middles_bound (tree_of N E 1 s c) (at_most 1 c) x y

  pub accepted_named_n_tuple : Clear (named_list_rows N E s) → (n k : ℕ) → NamedWidest N E s n → NTupleRoots N E k → n ≤ k * most_pairs valence N
  accepted_named_n_tuple c n k x y = over-widest_bound (at_most 1 c) x y

  -- ---- what the calls report

  pub looked-named-rooted-code : (r : ℕ) (old new : TwoOutputs) (o : Outcome ℕ) (n : ℕ) → Reporting (NamedRootedCode N E s r old new) (NamedAtRoot N E s r) o n → n ≤ most_pairs valence N
  looked-named-rooted-code r old new o n = reported_most (most_pairs valence N) n (λ a p x. rw x (accepted_named_rooted r (gave_both p).0)) o

  pub looked-named-n_tuple-code :
      (old new : TwoOutputs) (o : Outcome ℕ) (n k : ℕ) → Reporting (NamedFormCode (IsNTupleₗ atoms) N E s old new) (NamedWidest N E s) o n → NTupleRoots N E k → n ≤ k * most_pairs valence N
  looked-named-n_tuple-code old new o n k g y = reported_most (k * most_pairs valence N) n (λ a p x. accepted_named_n_tuple (gave_both p).0 n k x y) o g

  pub looked-named-centred-code :
      (old new : TwoOutputs) (o : Outcome ℕ) (n k : ℕ) → Reporting (NamedFormCode (IsCentredₗ atoms) N E s old new) (NamedMiddles N E s) o n → CentredRoots N E k → n ≤ k * most_pairs valence N
  looked-named-centred-code old new o n k g y = reported_most (k * most_pairs valence N) n (λ a p x. accepted_named_centred (gave_both p).0 n k x y) o g

  pub looked-named-write-line :
      (old new : List ℕ) (o : Outcome ℕ) (n k : ℕ) → Reporting (NamedWriteLine N E s old new) (NamedMiddles N E s) o n → CentredRoots N E k → n ≤ k * most_pairs valence N
  looked-named-write-line old new o n k g y = reported_most (k * most_pairs valence N) n (λ a p x. accepted_named_centred (gave p).0 n k x y) o g

  pub looked-named-equal-vertices :
      (old new : List ℕ) (o : Outcome ℕ) (n k : ℕ) → Reporting (NamedEqualVertices N E s old new) (NamedMiddles N E s) o n → CentredRoots N E k → n ≤ k * most_pairs valence N
  looked-named-equal-vertices old new o n k g y = reported_most (k * most_pairs valence N) n (λ a p x. accepted_named_centred (gave p).0 n k x y) o g

-- ---- of two lists

module _ (N : ℕ) (E s : List ℕ) (P : ℕ) (F u : List ℕ) where
  both_most :
      {K A : Type 0} {Q : OutcomeOf K A → Type 0} (o : OutcomeOf K A) (n j k : ℕ) → ((a : A) → Q (gives a) → Clear (named_list_rows N E s) × Clear (named_list_rows P F u))
      → Reporting Q (NamedOfBoth N E s P F u) o n → CentredRoots N E j → CentredRoots P F k → n ≤ j * most_pairs valence N + k * most_pairs valence P
  both_most o n j k lists g y z = reported_most (j * most_pairs valence N + k * most_pairs valence P) n (λ a p x. by (lists a p) x) o g
    where
      by : {n : ℕ} → Clear (named_list_rows N E s) × Clear (named_list_rows P F u) → NamedOfBoth N E s P F u n → n ≤ j * most_pairs valence N + k * most_pairs valence P
      by (c, d) (coded q v w) = omega (arith, accepted_named_centred N E s c _ j v y, accepted_named_centred P F u d _ k w z)
      by c (not_coded q) = omega arith

  pub looked-named-same-skeleton :
      (o : Finding) (n j k : ℕ) → Reporting (NamedSameSkeleton N E s P F u) (NamedOfBoth N E s P F u) o n → CentredRoots N E j → CentredRoots P F k
      → n ≤ j * most_pairs valence N + k * most_pairs valence P
  looked-named-same-skeleton o n j k = both_most o n j k (λ a p. lists p)
    where
      lists : {a : _} → NamedSameSkeleton N E s P F u (gives a) → Clear (named_list_rows N E s) × Clear (named_list_rows P F u)
      lists (kept c w) = let (z, k, l) = (lists_clear [] (named_list_rows N E s) (named_list_rows P F u)).0 c in (k, l)

  pub looked-named-renumbering :
      (old new : List ℕ) (o : MapOutcome) (n j k : ℕ) → Reporting (NamedHandOut N E s P F u old new) (NamedOfBoth N E s P F u) o n → CentredRoots N E j → CentredRoots P F k
      → n ≤ j * most_pairs valence N + k * most_pairs valence P
  looked-named-renumbering old new o n j k = both_most o n j k (λ a p. lists p)
    where
      lists : {a : ℕ} → NamedHandOut N E s P F u old new (gives a) → Clear (named_list_rows N E s) × Clear (named_list_rows P F u)
      lists (kept c w) = let (z, k, l, m) = (maps_clear [] (named_list_rows N E s) (named_list_rows P F u) (short (HandedKept atoms (atom_at s) (atom_at u) N E P F) (length old) ∷ [])).0 c in (k, l)
