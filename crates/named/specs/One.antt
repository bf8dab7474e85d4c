-- Read from its promise alone, every public call on skeletons with named atoms has one possible result and one possible state of what it is lent, as in `One` of the crate `zurkhovel`. r, s: the call's own results; new, new':
-- what was lent, after it. Of a call that also reports how many pairs it looked at, r and s are its answers. Assumes nothing.
--
-- In order: what is right is one; codes; two lists; lines; equal vertices. The forms that take carbon only are in `OneBits`, `OneMatrix` and `OneText` of the crate `zurkhovel`, over any table.
use Rattle.std.specs.Prelude.{Bool}
use Rattle.refusal.specs.declared.ListRefusal.{ListRefusal}
use Rattle.refusal.specs.document.Outcome.{told_of}
use Rattle.std.specs.Prelude.{Result}
use Rattle.refusal.specs.declared.Refusal.{Refusal}
use Rattle.std.specs.Prelude.{◌≡◌, refl, List, [], ◌∷◌, ℕ}
use Rattle.std.proofs.Common.{sym, ap, ap₂, ◌∙◌, subst}
use Rattle.refusal.specs.document.Table.{Clear}
use Rattle.refusal.specs.document.Both.{TwoOutputs}
use Rattle.refusal.specs.document.Outcome.{told, unwritten}
use Rattle.refusal.proofs.Apart.{told-both, told_of_apart}
use Rattle.refusal.proofs.Laws.{one_result}
use Rattle.refusal.proofs.Giving.{one_clear}
use Rattle.refusal.proofs.Both.{one-both}
use Rattle.refusal.proofs.WhichList.{one-handed_out}
use Rattle.limits.specs.document.Limits.{size, valence}
use Rattle.skeleton.specs.document.Label.{digits}
use Rattle.skeleton.specs.document.Atom.{atom_at}
use Rattle.skeleton.specs.document.AtomMarks.{atoms}
use Rattle.letters.specs.document.Letters.{letters_of}
use Rattle.edge_list.specs.document.Letters.{letter_rows}
use Rattle.form.specs.document.Labelled.{IsNTupleₗ, IsCentredₗ}
use Rattle.form.specs.Labelled.{IsFormₗ, n_tuple_formₗ, centred_formₗ}
use Rattle.orbits.specs.document.Carried.{ClassesOfₗ}
use Rattle.orbits.specs.Appearance.{one-numbering}
use Rattle.renumber.specs.Kept.{one-handed-kept}
use Rattle.texts.specs.Theorems as Texts
use Rattle.lines.specs.declared.Progress.{Progress}
use Rattle.named_lines.specs.document.Named.{named_table, lines_of_named, named_lent}
use Rattle.named_lines.specs.NamedSound.{named_once}
use Rattle.listing_text.specs.Theorems as Listing
use Rattle.zurkhovel.specs.One.{one-passed, one_found}
use Rattle.zurkhovel.specs.OneMaps.{one-map-passed}
use Rattle.named.specs.document.Codes.{Spelled, NamedForm, NamedCheckCode, NamedDecodeCode, NamedDecodeForm, NamedCheckEdges, NamedRootedCode, NamedFormCode}
use Rattle.named.specs.document.Same.{named_list_rows, NamedSameSkeleton, NamedHandOut, NamedCheckRenumbering}
use Rattle.named.specs.document.Text.{NamedWriteLine, NamedReadLine, NamedReadText, NamedListText}
use Rattle.named.specs.document.Alike.{NamedEqualVertices}
use Rattle.named.specs.Accepted.{tree_of}
use Rattle.named.specs.Two.{only_code, kept-codes}

-- ---- what is right is one

-- digits and letters of one code
one-spelled : {Right : List ℕ → Type 0} → ((c d : List ℕ) → Right c → Right d → c ≡ d) → (d l e m : List ℕ) → Spelled Right d l → Spelled Right e m → (d ≡ e) × (l ≡ m)
one-spelled one d l e m (c, x, p, q) (g, y, u, v) = let f : c ≡ g = one c g x y in (p ∙ ap (digits atoms) f ∙ sym u, q ∙ ap letters_of f ∙ sym v)

-- what Of has it to be of the centred code
one_derived :
    (N : ℕ) (E s : List ℕ) {Of : List ℕ → List ℕ → Type 0} → ((c l m : List ℕ) → Of c l → Of c m → l ≡ m) → Clear (letter_rows size valence N E 1 s) → (l m : List ℕ)
    → (c : List ℕ) × IsCentredₗ atoms N E (atom_at s) c × Of c l → (c : List ℕ) × IsCentredₗ atoms N E (atom_at s) c × Of c m → l ≡ m
one_derived N E s {Of} one k l m (c, x, o) (d, y, p) = one c l m o (subst (λ (b : List ℕ). Of b m) (only_code N E s k d c y x) p)

-- two areas are two things
both-only : {a b c d : List ℕ} → ◌≡◌ {A = List (List ℕ)} (a ∷ b ∷ []) (c ∷ d ∷ []) → (a ≡ c) × (b ≡ d)
both-only e = (cc, cc)

-- ---- codes

pub one-named-check-code : (ds ls : List ℕ) (r s : Result (Unit {0}) Refusal) → NamedCheckCode ds ls (told (unwritten r)) → NamedCheckCode ds ls (told (unwritten s)) → r ≡ s
one-named-check-code ds ls = one-passed

pub one-named-decode-code :
    (ds ls : List ℕ) (old new new' : TwoOutputs) (r s : Result ℕ Refusal) → NamedDecodeCode ds ls old new (told r) → NamedDecodeCode ds ls old new' (told s) → (r ≡ s) × (new ≡ new')
one-named-decode-code ds ls old new new' r s a b = told-both r s (one-both (λ k c l d m (p, q) (x, y). (p ∙ sym x, q ∙ sym y)) a b)

one-decode-form :
    (form : NamedForm) (ds ls : List ℕ) (old new new' : TwoOutputs) (r s : Result ℕ Refusal) → NamedDecodeForm form ds ls old new (told r) → NamedDecodeForm form ds ls old new' (told s)
    → (r ≡ s) × (new ≡ new')
one-decode-form form ds ls old new new' r s a b = told-both r s (one-both (λ k c l d m (p, q) (x, y). (p ∙ sym x, q ∙ sym y)) a b)

pub one-named-decode-n_tuple :
    (ds ls : List ℕ) (old new new' : TwoOutputs) (r s : Result ℕ Refusal) → NamedDecodeForm (IsNTupleₗ atoms) ds ls old new (told r) → NamedDecodeForm (IsNTupleₗ atoms) ds ls old new' (told s)
    → (r ≡ s) × (new ≡ new')
one-named-decode-n_tuple = one-decode-form (IsNTupleₗ atoms)

pub one-named-decode-centred :
    (ds ls : List ℕ) (old new new' : TwoOutputs) (r s : Result ℕ Refusal) → NamedDecodeForm (IsCentredₗ atoms) ds ls old new (told r) → NamedDecodeForm (IsCentredₗ atoms) ds ls old new' (told s)
    → (r ≡ s) × (new ≡ new')
one-named-decode-centred = one-decode-form (IsCentredₗ atoms)

module _ (N : ℕ) (E s : List ℕ) where
  pub one-named-check-edges :
      (root : ℕ) (r q : Result (Unit {0}) Refusal) → NamedCheckEdges N E s root (told (unwritten r)) → NamedCheckEdges N E s root (told (unwritten q)) → r ≡ q
  one-named-check-edges root = one-passed

  pub one-named-rooted-code :
      (root : ℕ) (old new new' : TwoOutputs) (r q : Result ℕ Refusal) → NamedRootedCode N E s root old new (told r) → NamedRootedCode N E s root old new' (told q) → (r ≡ q) × (new ≡ new')
  one-named-rooted-code root old new new' r q a b = told-both r q (one-both (λ k. one-spelled (λ c d x y. x ∙ sym y)) a b)

  one-form-code :
      (form : NamedForm) → IsFormₗ atoms form → (old new new' : TwoOutputs) (r q : Result ℕ Refusal) → NamedFormCode form N E s old new (told r) → NamedFormCode form N E s old new' (told q)
      → (r ≡ q) × (new ≡ new')
  one-form-code form f old new new' r q a b = told-both r q (one-both (λ k. one-spelled (λ c d. f.one N E (atom_at s) (tree_of N E 1 s k))) a b)

  pub one-named-n_tuple-code :
      (old new new' : TwoOutputs) (r q : Result ℕ Refusal) → NamedFormCode (IsNTupleₗ atoms) N E s old new (told r) → NamedFormCode (IsNTupleₗ atoms) N E s old new' (told q) → (r ≡ q) × (new ≡ new')
  one-named-n_tuple-code = one-form-code (IsNTupleₗ atoms) (n_tuple_formₗ atoms)

  pub one-named-centred-code :
      (old new new' : TwoOutputs) (r q : Result ℕ Refusal) → NamedFormCode (IsCentredₗ atoms) N E s old new (told r) → NamedFormCode (IsCentredₗ atoms) N E s old new' (told q) → (r ≡ q) × (new ≡ new')
  one-named-centred-code = one-form-code (IsCentredₗ atoms) (centred_formₗ atoms)

  -- ---- two lists

  module _ (P : ℕ) (F u : List ℕ) where
    pub one-named-same-skeleton : (r q : Result Bool ListRefusal) → NamedSameSkeleton N E s P F u (told_of r) → NamedSameSkeleton N E s P F u (told_of q) → r ≡ q
    one-named-same-skeleton r q x y =
        told_of_apart r q (one_result (λ a b v w. (one_found (IsCentredₗ atoms N E (atom_at s)) (IsCentredₗ atoms P F (atom_at u)) a b v w, refl)) x y).0

    pub one-named-renumbering :
        (old new new' : List ℕ) (r q : Result ℕ ListRefusal) → NamedHandOut N E s P F u old new (told_of r) → NamedHandOut N E s P F u old new' (told_of q) → (r ≡ q) × (new ≡ new')
    one-named-renumbering old new new' r q x y =
        let (e, f) = one-handed_out [] (named_list_rows N E s) (named_list_rows P F u) (λ z k l. (
          one-handed-kept atoms (atom_at s) (atom_at u) (tree_of N E 1 s k),
          λ w v n. let (c, g, h) = kept-codes N E s P F u k l w v in n c g h,
        )) x y in
        (told_of_apart r q e, f)

    pub one-named-check-renumbering :
        (w : List ℕ) (r q : Result (Unit {0}) ListRefusal) → NamedCheckRenumbering N E s P F u w (told_of (unwritten r))
        → NamedCheckRenumbering N E s P F u w (told_of (unwritten q)) → r ≡ q
    one-named-check-renumbering w = one-map-passed

  -- ---- lines and equal vertices

  pub one-named-write-line : (old new new' : List ℕ) (r q : Result ℕ Refusal) → NamedWriteLine N E s old new (told r) → NamedWriteLine N E s old new' (told q) → (r ≡ q) × (new ≡ new')
  one-named-write-line old new new' r q a b = told-both r q (one_clear (one_derived N E s (λ c l m e f. e ∙ sym f)) a b)

  pub one-named-equal-vertices :
      (old new new' : List ℕ) (r q : Result ℕ Refusal) → NamedEqualVertices N E s old new (told r) → NamedEqualVertices N E s old new' (told q) → (r ≡ q) × (new ≡ new')
  one-named-equal-vertices old new new' r q a b = told-both r q (one_clear (one_derived N E s {Of = ClassesOfₗ atoms} (λ c l m. one-numbering)) a b)

pub one-named-read-line :
    (t old letters new new' spelled spelled' : List ℕ) (r s : Result ℕ Refusal) → NamedReadLine t old letters new spelled (told r) → NamedReadLine t old letters new' spelled' (told s)
    → (r ≡ s) × (new ≡ new') × (spelled ≡ spelled')
one-named-read-line t old letters new new' spelled spelled' r s a b =
    let (o, q) = Texts.one_line (lines_of_named size named_table) named_once (named_lent size) t (old ∷ letters ∷ []) (new ∷ spelled ∷ []) (new' ∷ spelled' ∷ []) (told r) (told s) a b in
    let (e, f) = both-only q in
    ((told-both r s (o, e)).0, e, f)

pub one-named-read-text :
    (t rec lets num pla rec₁ lets₁ num₁ pla₁ rec₂ lets₂ num₂ pla₂ : List ℕ) (r s : Progress) → NamedReadText t rec lets num pla rec₁ lets₁ num₁ pla₁ r.lines r.at
    → NamedReadText t rec lets num pla rec₂ lets₂ num₂ pla₂ s.lines s.at → (r ≡ s) × (rec₁ ≡ rec₂) × (lets₁ ≡ lets₂) × (num₁ ≡ num₂) × (pla₁ ≡ pla₂)
one-named-read-text t rec lets num pla rec₁ lets₁ num₁ pla₁ rec₂ lets₂ num₂ pla₂ r s a b =
    let (k, at, q, f, g) = Texts.one-text (lines_of_named size named_table) named_once (named_lent size) t (rec ∷ lets ∷ []) num pla (rec₁ ∷ lets₁ ∷ []) num₁ pla₁ (rec₂ ∷ lets₂ ∷ []) num₂ pla₂ r.lines r.at s.lines s.at a b in
    let (e, h) = both-only q in
    (ap₂ (λ (i j : ℕ). record { lines = i; at = j }) k at, e, h, f, g)

pub one-named-list : (t old new new' : List ℕ) (from n m : ℕ) → NamedListText t old new from n → NamedListText t old new' from m → (n ≡ m) × (new ≡ new')
one-named-list t old new new' from n m a b = Listing.only-piece (lines_of_named size named_table) named_once t old new new' from n m a b
