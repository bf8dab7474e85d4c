-- What "same" means of skeletons with named atoms, stated of the promises of the public calls, as in `Meaning` of the crate `zurkhovel`: the renumberings are those that keep the atoms. That it follows, for any tables
-- and codes, is in `Means` there.
--
-- In order: the centred codes and the N-tuple codes that the calls give; the verdict; the renumbering that is handed out; the one that is judged; the two together. Assumes nothing.
use Rattle.std.specs.Prelude.{◌≡◌, ◌↔◌, true, false, List, [], ℕ, ◌≤◌, length, take}
use Rattle.std.proofs.Common.{sym, ap, ◌∙◌, arith}
use Rattle.std.proofs.Math.Logic.{Iff.trans as iff_trans}
use Rattle.refusal.specs.document.Table.{Clear, gives}
use Rattle.refusal.specs.document.Both.{TwoOutputs}
use Rattle.refusal.specs.Both.{gave_both}
use Rattle.skeleton.specs.document.Label.{digits}
use Rattle.skeleton.specs.document.Atom.{atom_at}
use Rattle.skeleton.specs.document.AtomMarks.{atoms}
use Rattle.skeleton.specs.Atoms.{same_atom}
use Rattle.letters.specs.document.Letters.{letters_of}
use Rattle.form.specs.document.Labelled.{IsNTupleₗ, IsCentredₗ}
use Rattle.form.specs.Labelled.{IsFormₗ, n_tuple_formₗ, centred_formₗ, form_verdictₗ}
use Rattle.renumber.specs.document.Map.{Renumbers}
use Rattle.renumber.specs.document.Kept.{kept_rows, KeepsAtoms, HandedKept}
use Rattle.renumber.specs.Kept.{kept_exactly}
use Rattle.zurkhovel.specs.document.Maps.{MapOutcome}
use Rattle.zurkhovel.specs.Means.{Means, same_means, not_same_means, map_means, none_means, some_means, handed_means}
use Rattle.named.specs.document.Codes.{NamedForm, NamedFormCode}
use Rattle.named.specs.document.Same.{named_list_rows, NamedSameUnder, NamedSameSkeleton, NamedHandOut, NamedCheckRenumbering}
use Rattle.named.specs.Accepted.{tree_of, digits_many, letters_many}
use Rattle.named.specs.Spelled.{spelled_apart}
use Rattle.named.specs.Two.{nothing_else, kept_length}

module _ (N : ℕ) (E s : List ℕ) (P : ℕ) (F u : List ℕ) where
  -- ---- the codes

  -- the n bytes at the start of both outputs, and the m at the start of the others
  abbrev GaveTheSame : TwoOutputs → TwoOutputs → ℕ → ℕ → Type 0
  GaveTheSame new new' n m = (take n new.0 ≡ take m new'.0) × (take n new.1 ≡ take m new'.1)

  same_codes :
      (form : NamedForm) → IsFormₗ atoms form → (old new old' new' : TwoOutputs) (n m : ℕ) → NamedFormCode form N E s old new (gives n)
      → NamedFormCode form P F u old' new' (gives m) → GaveTheSame new new' n m ↔ NamedSameUnder N E s P F u
  same_codes form f old new old' new' n m x y =
      let (k, (d, l, (c, p, i, j), h, a, b)) = gave_both x in
      let (k', (d', l', (c', p', i', j'), h', a', b')) = gave_both y in
      let long : length l ≡ length d = ap length j ∙ letters_many c ∙ sym (ap length i ∙ digits_many c) in
      let long' : length l' ≡ length d' = ap length j' ∙ letters_many c' ∙ sym (ap length i' ∙ digits_many c') in
      let first : take n new.0 ≡ digits atoms c = ap (λ z. take z new.0) h ∙ a ∙ i in
      let second : take n new.1 ≡ letters_of c = ap (λ z. take z new.1) (h ∙ sym long) ∙ b ∙ j in
      let first' : take m new'.0 ≡ digits atoms c' = ap (λ z. take z new'.0) h' ∙ a' ∙ i' in
      let second' : take m new'.1 ≡ letters_of c' = ap (λ z. take z new'.1) (h' ∙ sym long') ∙ b' ∙ j' in
      let (there, back) = form_verdictₗ atoms form f N P E F (atom_at s) (atom_at u) c c' (tree_of N E 1 s k) (tree_of P F 1 u k') p p' in (
        (λ (e, g). there (spelled_apart (sym first ∙ e ∙ first') (sym second ∙ g ∙ second'))),
        (λ q. let e : c ≡ c' = back q in (first ∙ ap (digits atoms) e ∙ sym first', second ∙ ap letters_of e ∙ sym second')),
      )

  -- Two accepted edge lists with letters get equal centred codes, digits and letters, exactly when a renumbering that keeps the atoms carries one onto the other.
  pub same-named-centred-codes :
      (old new old' new' : TwoOutputs) (n m : ℕ) → NamedFormCode (IsCentredₗ atoms) N E s old new (gives n) → NamedFormCode (IsCentredₗ atoms) P F u old' new' (gives m)
      → GaveTheSame new new' n m ↔ NamedSameUnder N E s P F u
  same-named-centred-codes = same_codes (IsCentredₗ atoms) (centred_formₗ atoms)

  -- The same for N-tuple codes.
  pub same-named-n_tuple-codes :
      (old new old' new' : TwoOutputs) (n m : ℕ) → NamedFormCode (IsNTupleₗ atoms) N E s old new (gives n) → NamedFormCode (IsNTupleₗ atoms) P F u old' new' (gives m)
      → GaveTheSame new new' n m ↔ NamedSameUnder N E s P F u
  same-named-n_tuple-codes = same_codes (IsNTupleₗ atoms) (n_tuple_formₗ atoms)

  -- ---- the verdict

  means : Means [] (named_list_rows N E s) (named_list_rows P F u) (IsCentredₗ atoms N E (atom_at s)) (IsCentredₗ atoms P F (atom_at u)) (NamedSameUnder N E s P F u)
  means = record {
    some = λ z k. (centred_formₗ atoms).some N E (atom_at s) (tree_of N E 1 s k);
    other = λ z l. (centred_formₗ atoms).some P F (atom_at u) (tree_of P F 1 u l);
    same = λ z k l c d x y. form_verdictₗ atoms (IsCentredₗ atoms) (centred_formₗ atoms) N P E F (atom_at s) (atom_at u) c d (tree_of N E 1 s k) (tree_of P F 1 u l) x y;
  }

  -- no row belongs to no list
  accepted : {X : Type 0} → (Clear {K = ℕ} [] × Clear (named_list_rows N E s) × Clear (named_list_rows P F u) × X) ↔ (Clear (named_list_rows N E s) × Clear (named_list_rows P F u) × X)
  accepted = ((λ (z, k, l, x). (k, l, x)), (λ (k, l, x). (nothing_else, k, l, x)))

  -- "The same" is said of two accepted lists exactly when they are.
  pub named-same-said : NamedSameSkeleton N E s P F u (gives true) ↔ (Clear (named_list_rows N E s) × Clear (named_list_rows P F u) × NamedSameUnder N E s P F u)
  named-same-said = iff_trans (same_means means) accepted

  -- "Not the same" is said of two accepted lists exactly when they are not.
  pub named_not_same_said : NamedSameSkeleton N E s P F u (gives false) ↔ (Clear (named_list_rows N E s) × Clear (named_list_rows P F u) × (NamedSameUnder N E s P F u → ⊥))
  named_not_same_said = iff_trans (not_same_means means) accepted

  -- ---- a renumbering handed out, and one judged

  abbrev Right : List ℕ → Type 0
  Right w = Renumbers N E P F w × KeepsAtoms (atom_at s) (atom_at u) w

  exact : (w : List ℕ) → Clear {K = ℕ} [] → Clear (named_list_rows N E s) → Clear (named_list_rows P F u) → Clear (kept_rows (atom_at s) (atom_at u) N E P F w) ↔ Right w
  exact w z k l = kept_exactly atoms same_atom (atom_at s) (atom_at u) N P E F w (tree_of N E 1 s k) (tree_of P F 1 u l)

  -- A map is accepted exactly when both lists are, and it is a renumbering of the first onto the second, entry by entry, that keeps the atoms.
  pub named_accepted_exactly : (w : List ℕ) → NamedCheckRenumbering N E s P F u w (gives 0) ↔ (Clear (named_list_rows N E s) × Clear (named_list_rows P F u) × Right w)
  named_accepted_exactly w = iff_trans (map_means (exact w)) accepted

  right : (w : List ℕ) → HandedKept atoms (atom_at s) (atom_at u) N E P F w → Right w
  right w x = x.renumbers

  shows : (w : List ℕ) → Right w → NamedSameUnder N E s P F u
  shows w ((e, n, ρ, t), f) = (e, (ρ, λ v a b. ap (atom_at u) (sym (t v a b)) ∙ f v a (omega arith)))

  -- Where a map is accepted, the verdict is yes.
  pub named_accepted_same : (w : List ℕ) → NamedCheckRenumbering N E s P F u w (gives 0) → NamedSameSkeleton N E s P F u (gives true)
  named_accepted_same w x = let (k, l, r) = (named_accepted_exactly w).0 x in named-same-said.1 (k, l, shows w r)

  module _ (old new : List ℕ) (n : ℕ) where
    -- Nothing is written exactly where the lists are not the same.
    pub named-handed-none : NamedHandOut N E s P F u old new (gives n) → (n ≡ 0) ↔ (NamedSameUnder N E s P F u → ⊥)
    named-handed-none = none_means means right shows old new (λ w k x. omega (arith, kept_length N E s P F u w x, (tree_of N E 1 s k).edges)) n

    -- What is written is a renumbering that keeps the atoms exactly where they are.
    pub named-handed_some : NamedHandOut N E s P F u old new (gives n) → NamedSameUnder N E s P F u ↔ Right (take n new)
    named-handed_some = some_means means right shows old new n

    -- Together: a map that is handed out is accepted.
    pub named-handed_accepted : 1 ≤ n → NamedHandOut N E s P F u old new (gives n) → (o : MapOutcome) → NamedCheckRenumbering N E s P F u (take n new) o → o ≡ gives 0
    named-handed_accepted = handed_means means right shows old new (kept_rows (atom_at s) (atom_at u) N E P F) exact n
