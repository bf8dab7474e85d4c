-- Read from its promise alone, every public call on named atoms that reports how many pairs it looked at has one possible result, its answer and the number, and one possible state of what it is lent. r, q: the call's own
-- results; new, new': what was lent, after it. Of the answer alone this is said in `One`, which is cited here; the laws are those of `OneReported` of the crate `zurkhovel`. Assumes nothing.
use Rattle.std.specs.Prelude.{Result}
use Rattle.refusal.specs.declared.Refusal.{Refusal}
use Rattle.refusal.specs.declared.ListRefusal.{ListRefusal}
use Rattle.refusal.specs.declared.Reported.{Reported}
use Rattle.refusal.specs.document.Outcome.{told_of}
use Rattle.refusal.specs.document.Reported.{answer, pairs}
use Rattle.std.specs.Prelude.{◌≡◌, Bool, List, [], ◌∷◌, ◌++◌, ℕ, length}
use Rattle.std.proofs.Common.{sym, ◌∙◌}
use Rattle.refusal.specs.document.Table.{Clear, Gives, Promise, gives, kept, short}
use Rattle.refusal.specs.document.Both.{TwoOutputs, GivesBoth, short_both}
use Rattle.refusal.specs.document.Outcome.{told}
use Rattle.refusal.specs.Laws.{clear_left}
use Rattle.refusal.specs.Giving.{gave}
use Rattle.refusal.specs.Lists.{lists_clear, maps_clear}
use Rattle.skeleton.specs.document.Atom.{atom_at}
use Rattle.skeleton.specs.document.AtomMarks.{atoms}
use Rattle.form.specs.document.Labelled.{IsNTupleₗ, IsCentredₗ}
use Rattle.form_coder.specs.Sums.{one-over-middles, one-over-widest}
use Rattle.renumber.specs.document.Kept.{HandedKept}
use Rattle.refusal.specs.document.Reported.{Reporting}
use Rattle.zurkhovel.specs.OneReported.{OneCount, one_written, one-verdict, one_mapping, one-sum}
use Rattle.named.specs.document.Codes.{NamedRootedCode, NamedFormCode, NamedAtRoot, NamedWidest, NamedMiddles}
use Rattle.named.specs.document.Same.{named_list_rows, NamedSameSkeleton, NamedHandOut, NamedOfBoth}
use Rattle.named.specs.document.Text.{NamedWriteLine}
use Rattle.named.specs.document.Alike.{NamedEqualVertices}
use Rattle.named.specs.Accepted.{tree_of}
use Rattle.named.specs.One as answers

module _ (N : ℕ) (E s : List ℕ) where
  -- ---- what is counted

  one-middles : Clear (named_list_rows N E s) → (n m : ℕ) → NamedMiddles N E s n → NamedMiddles N E s m → n ≡ m
  one-middles k n m x y = one-over-middles (tree_of N E 1 s k) x y

  -- of what a call wrote, or wrote in two parts
  middles-written : {Right : List ℕ → Type 0} {old new : List ℕ} → OneCount (Gives (named_list_rows N E s) Right old new) (NamedMiddles N E s)
  middles-written a p = one-middles (gave p).0

  middles-both : {Right : List ℕ → List ℕ → Type 0} {old new : TwoOutputs} → OneCount (GivesBoth (named_list_rows N E s) Right old new) (NamedMiddles N E s)
  middles-both {Right} {old} a p = by p.promise
    where
      by : {Kept : ℕ → TwoOutputs → Type 0} {new : TwoOutputs} → Promise (named_list_rows N E s ++ short_both Right old) Kept old new (gives a) → (n m : ℕ) → NamedMiddles N E s n → NamedMiddles N E s m → n ≡ m
      by (kept c w) = one-middles (clear_left (named_list_rows N E s) (short_both Right old) c)

  -- ---- the calls

  pub one-named-rooted-code-reported :
      (root : ℕ) (old new new' : TwoOutputs) (r q : Result (Reported ℕ) Refusal) → Reporting (NamedRootedCode N E s root old new) (NamedAtRoot N E s root) (told (answer r)) (pairs r)
      → Reporting (NamedRootedCode N E s root old new') (NamedAtRoot N E s root) (told (answer q)) (pairs q) → (r ≡ q) × (new ≡ new')
  one-named-rooted-code-reported root old new new' = one_written (answers.one-named-rooted-code N E s root old new new') (λ a p n m x y. x ∙ sym y)

  pub one-named-n_tuple-code-reported :
      (old new new' : TwoOutputs) (r q : Result (Reported ℕ) Refusal) → Reporting (NamedFormCode (IsNTupleₗ atoms) N E s old new) (NamedWidest N E s) (told (answer r)) (pairs r)
      → Reporting (NamedFormCode (IsNTupleₗ atoms) N E s old new') (NamedWidest N E s) (told (answer q)) (pairs q) → (r ≡ q) × (new ≡ new')
  one-named-n_tuple-code-reported old new new' = one_written (answers.one-named-n_tuple-code N E s old new new') (λ a p n m. one-over-widest)

  pub one-named-centred-code-reported :
      (old new new' : TwoOutputs) (r q : Result (Reported ℕ) Refusal) → Reporting (NamedFormCode (IsCentredₗ atoms) N E s old new) (NamedMiddles N E s) (told (answer r)) (pairs r)
      → Reporting (NamedFormCode (IsCentredₗ atoms) N E s old new') (NamedMiddles N E s) (told (answer q)) (pairs q) → (r ≡ q) × (new ≡ new')
  one-named-centred-code-reported old new new' = one_written (answers.one-named-centred-code N E s old new new') middles-both

  pub one-named-write-line-reported :
      (old new new' : List ℕ) (r q : Result (Reported ℕ) Refusal) → Reporting (NamedWriteLine N E s old new) (NamedMiddles N E s) (told (answer r)) (pairs r)
      → Reporting (NamedWriteLine N E s old new') (NamedMiddles N E s) (told (answer q)) (pairs q) → (r ≡ q) × (new ≡ new')
  one-named-write-line-reported old new new' = one_written (answers.one-named-write-line N E s old new new') middles-written

  pub one-named-equal-vertices-reported :
      (old new new' : List ℕ) (r q : Result (Reported ℕ) Refusal) → Reporting (NamedEqualVertices N E s old new) (NamedMiddles N E s) (told (answer r)) (pairs r)
      → Reporting (NamedEqualVertices N E s old new') (NamedMiddles N E s) (told (answer q)) (pairs q) → (r ≡ q) × (new ≡ new')
  one-named-equal-vertices-reported old new new' = one_written (answers.one-named-equal-vertices N E s old new new') middles-written

-- ---- of two lists

module _ (N : ℕ) (E s : List ℕ) (P : ℕ) (F u : List ℕ) where
  one-both : Clear (named_list_rows N E s) → Clear (named_list_rows P F u) → (n m : ℕ) → NamedOfBoth N E s P F u n → NamedOfBoth N E s P F u m → n ≡ m
  one-both k l n m = one-sum (one-middles N E s k) (one-middles P F u l)

  pub one-named-same-skeleton-reported :
      (r q : Result (Reported Bool) ListRefusal) → Reporting (NamedSameSkeleton N E s P F u) (NamedOfBoth N E s P F u) (told_of (answer r)) (pairs r)
      → Reporting (NamedSameSkeleton N E s P F u) (NamedOfBoth N E s P F u) (told_of (answer q)) (pairs q) → r ≡ q
  one-named-same-skeleton-reported = one-verdict (answers.one-named-same-skeleton N E s P F u) (λ a p. by p)
    where
      by : {a : Bool} → NamedSameSkeleton N E s P F u (gives a) → (n m : ℕ) → NamedOfBoth N E s P F u n → NamedOfBoth N E s P F u m → n ≡ m
      by (kept c w) = let (z, k, l) = (lists_clear [] (named_list_rows N E s) (named_list_rows P F u)).0 c in one-both k l

  pub one-named-renumbering-reported :
      (old new new' : List ℕ) (r q : Result (Reported ℕ) ListRefusal) → Reporting (NamedHandOut N E s P F u old new) (NamedOfBoth N E s P F u) (told_of (answer r)) (pairs r)
      → Reporting (NamedHandOut N E s P F u old new') (NamedOfBoth N E s P F u) (told_of (answer q)) (pairs q) → (r ≡ q) × (new ≡ new')
  one-named-renumbering-reported old new new' = one_mapping (answers.one-named-renumbering N E s P F u old new new') (λ a p. by p)
    where
      by : {a : ℕ} → NamedHandOut N E s P F u old new (gives a) → (n m : ℕ) → NamedOfBoth N E s P F u n → NamedOfBoth N E s P F u m → n ≡ m
      by (kept c w) = let (z, k, l, m) = (maps_clear [] (named_list_rows N E s) (named_list_rows P F u) (short (HandedKept atoms (atom_at s) (atom_at u) N E P F) (length old) ∷ [])).0 c in one-both k l
