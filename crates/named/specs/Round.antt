-- Demand 2, said of the public calls on codes with letters: "Decoding an accepted code and coding again in the same form gives that code; coding and decoding gives the same skeleton under other numbers", and with its
-- atoms. What a call gave stands at the start of its outputs; where the next call's outputs have room, it gives what is said here and nothing else.
--
-- In order: what a call must give in two parts; rooted codes; N-tuple and centred codes, once for both. Named lines are in `RoundText`. Assumes nothing.
use Rattle.std.specs.Prelude.{◌≡◌, refl, List, [], ◌∷◌, ℕ, ◌≤◌, length, take}
use Rattle.std.proofs.Common.{sym, ap, ◌∙◌, subst, arith}
use Rattle.laws.specs.Laying.{laid-front}
use Rattle.refusal.specs.document.Table.{Row, Clear, Outcome, gives, row3}
use Rattle.refusal.specs.document.Both.{TwoOutputs, GivesBoth}
use Rattle.refusal.specs.Laws.{clear_both, clear_left, clear_right}
use Rattle.refusal.specs.Both.{both-given, gave_both}
use Rattle.refusal.proofs.Both.{one-both}
use Rattle.limits.specs.document.Limits.{size, valence}
use Rattle.digit_code.specs.document.Code.{decode}
use Rattle.skeleton.specs.document.Skeleton.{IsTree, Renumbering}
use Rattle.skeleton.specs.document.Label.{rootedₗ, digits, labels, Keeps}
use Rattle.skeleton.specs.Label.{mark_rows}
use Rattle.skeleton.specs.document.Atom.{atom_at, bonds}
use Rattle.skeleton.specs.document.AtomMarks.{atoms}
use Rattle.skeleton.specs.General.{code_length, code-decode}
use Rattle.skeleton.specs.Accepted.{marks_accepted}
use Rattle.letters.specs.document.Letters.{letters_of}
use Rattle.edge_list.specs.Letters.{letters_accepted}
use Rattle.lettered_check.specs.document.Lettered.{marks_of, lettered_code_rows, lettered_form_rows}
use Rattle.form.specs.document.Labelled.{IsNTupleₗ, IsCentredₗ, row14ₗ}
use Rattle.form.specs.Labelled.{IsFormₗ, n_tuple_formₗ, centred_formₗ, Alike, form_sizeₗ, form_decodedₗ}
use Rattle.form.specs.Accepted.{form_passesₗ, form_acceptedₗ}
use Rattle.named.specs.document.Codes.{Spelled, NamedForm, NamedDecodeCode, NamedDecodeForm, NamedRootedCode, NamedFormCode}
use Rattle.named.specs.document.Round.{GivenBoth, NamedUnder, NamedRenumbered}
use Rattle.named.specs.Accepted.{some_bonds, few_bonds, digits_many, letters_many, tree_of, root_of, valences_of}
use Rattle.named.specs.Spelled.{spelled-marks}
use Rattle.named.specs.Decoded.{letters-of, marks_many, told-digits, told-letters, told-labels, marks_clear, its_rows, its_code, spelled_clear, spelled-labels}

-- ---- what must be given

-- a call that no row stops, and for which c and l alone are right, gives them
must_give_both :
    {rs : List Row} {Right : List ℕ → List ℕ → Type 0} {old new : TwoOutputs} {o : Outcome ℕ} (c l : List ℕ) → Clear rs → Right c l
    → ((d m : List ℕ) → Right d m → (d ≡ c) × (m ≡ l)) → length c ≤ length old.0 → length l ≤ length old.1 → GivesBoth rs Right old new o → GivenBoth c l old new o
must_give_both c l k r one h i g =
    one-both (λ z d m e n x y. let (a, b) = one d m x in let (u, v) = one e n y in (a ∙ sym u, b ∙ sym v)) g
    (both-given k (λ d m x. let (a, b) = one d m x in (ap length a, ap length b)) h i (record { first = c; second = l; right = r; count = refl; first_lies = refl; second_lies = refl }))

-- what was given in two parts, as the next call is handed it
given-parts :
    {rs : List Row} {Right : List ℕ → List ℕ → Type 0} {old new : TwoOutputs} {n : ℕ} (c l : List ℕ) → ((d m : List ℕ) → Right d m → (d ≡ c) × (m ≡ l))
    → GivesBoth rs Right old new (gives n) → Clear rs × (n ≡ length c) × (take n new.0 ≡ c) × (take (length l) new.1 ≡ l)
given-parts {new = new} c l one g =
    let (k, (d, m, r, h, a, b)) = gave_both g in
    let (p, q) = one d m r in
    (k, h ∙ ap length p, ap (λ z. take z new.0) h ∙ a ∙ p, ap (λ z. take z new.1) (sym (ap length q)) ∙ b ∙ q)

-- edges and letters that are given, of a skeleton that is the same under other numbers
under-given :
    (N : ℕ) (E s ds ls : List ℕ) {rs : List Row} {old new : TwoOutputs} {o : Outcome ℕ} → IsTree N E → IsTree N (decode ds) → length ls ≡ N → NamedUnder N E s (decode ds) ls → Clear rs
    → length E ≤ length old.0 → N ≤ length old.1 → GivesBoth rs (λ F l. (F ≡ decode ds) × (l ≡ ls)) old new o → NamedRenumbered N E s new o
under-given N E s ds ls {old = old} {new} t u m under k h i g =
    let l : length (decode ds) ≡ length E = omega (arith, t.edges, u.edges) in
    let (a, b) = must_give_both (decode ds) ls k (refl, refl) (λ F l x. x) (omega arith) (omega arith) g in
    let first : take (length E) new.0 ≡ decode ds = laid-front (decode ds) old.0 new.0 (length E) (ap (λ (x : TwoOutputs). x.0) b) l in
    let second : take N new.1 ≡ ls = laid-front ls old.1 new.1 N (ap (λ (x : TwoOutputs). x.1) b) m in
    (a ∙ ap gives l, subst (λ F. NamedUnder N E s F (take N new.1)) (sym first) (subst (λ w. NamedUnder N E s (decode ds) w) (sym second) under))

-- the digits and letters of one code
spelled-one : {Right : List ℕ → Type 0} (c : List ℕ) → ((d : List ℕ) → Right d → d ≡ c) → (d m : List ℕ) → Spelled Right d m → (d ≡ digits atoms c) × (m ≡ letters_of c)
spelled-one c one d m (g, x, p, q) = let e = one g x in (p ∙ ap (digits atoms) e, q ∙ ap letters_of e)

-- ---- an accepted code with letters, coded again

module _ (ds ls : List ℕ) (k : Clear (lettered_code_rows size valence ds ls)) where
  -- what is right of it is the marks alone: so the digits and letters are given
  again : {rs : List Row} {Right : List ℕ → Type 0} {old new : TwoOutputs} {o : Outcome ℕ} → Clear rs → Right (marks_of ds ls) → ((d : List ℕ) → Right d → d ≡ marks_of ds ls)
      → length ds ≤ length old.0 → length ds ≤ length old.1 → GivesBoth rs (Spelled Right) old new o → GivenBoth ds ls old new o
  again c r one h i g =
      must_give_both ds ls c (marks_of ds ls, r, told-digits ds ls k, told-letters ds ls k)
      (λ d m x. let (p, q) = spelled-one (marks_of ds ls) one d m x in (p ∙ sym (told-digits ds ls k), q ∙ sym (told-letters ds ls k))) h
      (omega (arith, (letters-of ds ls k).many)) g

  -- the letters that decoding gives are as many as the digits
  handed : (new : TwoOutputs) → take (length ls) new.1 ≡ ls → take (length ds) new.1 ≡ ls
  handed new e = ap (λ z. take z new.1) (sym (letters-of ds ls k).many) ∙ e

-- decoded and coded at vertex 1, an accepted code with its letters is itself
pub named-rooted_again :
    (ds ls : List ℕ) (old new : TwoOutputs) (m : ℕ) (old' new' : TwoOutputs) (o : Outcome ℕ) → NamedDecodeCode ds ls old new (gives m) → length ds ≤ length old'.0
    → length ds ≤ length old'.1 → NamedRootedCode (length ds) (take m new.0) (take (length ds) new.1) 1 old' new' o → GivenBoth ds ls old' new' o
named-rooted_again ds ls old new m old' new' o d h i g =
    let (k, e, p, q) = given-parts (decode ds) ls (λ F l x. x) d in
    again ds ls k (its_rows ds ls k) (sym (its_code ds ls k)) (λ c x. x ∙ its_code ds ls k) h i
    (subst (λ F. NamedRootedCode (length ds) F ls 1 old' new' o) p (subst (λ l. NamedRootedCode (length ds) (take m new.0) l 1 old' new' o) (handed ds ls k new q) g))

-- ---- a skeleton's code, decoded

module _ (N : ℕ) (E s c : List ℕ) (t : IsTree N E) (sized : length c ≡ N) (k : Clear (row3 size (length c) ∷ mark_rows atoms valence bonds c)) (alike : Alike atoms N E (decode (digits atoms c)) (atom_at s) (labels atoms c)) where
  -- what decoding must give of it is the skeleton under other numbers
  back : {rs : List Row} {old new : TwoOutputs} {o : Outcome ℕ} → Clear rs → length E ≤ length old.0 → N ≤ length old.1
      → GivesBoth rs (λ F l. (F ≡ decode (digits atoms c)) × (l ≡ letters_of c)) old new o → NamedRenumbered N E s new o
  back z h i g =
      under-given N E s (digits atoms c) (letters_of c) t (subst (λ n. IsTree n (decode (digits atoms c))) sized (valences_of c k).0) (letters_many c ∙ sized)
      (subst (λ l. (ρ : Renumbering N E (decode (digits atoms c))) × Keeps atoms N E (decode (digits atoms c)) (atom_at s) l ρ) (spelled-labels c k) alike) z h i g

-- what coding gave is handed on, digits and letters
spelled-parts :
    {N : ℕ} {rs : List Row} {Right : List ℕ → Type 0} {old new : TwoOutputs} {n : ℕ} (c : List ℕ) → length c ≡ N → ((d : List ℕ) → Right d → d ≡ c)
    → GivesBoth rs (Spelled Right) old new (gives n) → (take n new.0 ≡ digits atoms c) × (take n new.1 ≡ letters_of c)
spelled-parts {new = new} c sized one g =
    let (k, e, p, q) = given-parts (digits atoms c) (letters_of c) (spelled-one c one) g in
    (p, ap (λ z. take z new.1) (e ∙ digits_many c ∙ sym (letters_many c)) ∙ q)

-- coded at a vertex and decoded, a skeleton is the same under other numbers, with its atoms
pub named-rooted-back :
    (N : ℕ) (E s : List ℕ) (r : ℕ) (old new : TwoOutputs) (n : ℕ) (old' new' : TwoOutputs) (o : Outcome ℕ) → NamedRootedCode N E s r old new (gives n) → length E ≤ length old'.0
    → N ≤ length old'.1 → NamedDecodeCode (take n new.0) (take n new.1) old' new' o → NamedRenumbered N E s new' o
named-rooted-back N E s r old new n old' new' o c h i g =
    let code : List ℕ = rootedₗ atoms (atom_at s) N E r in
    let (k, y) = gave_both c in
    let (a, b) = root_of N E r s k in
    let t = tree_of N E r s k in
    let (p, q) = spelled-parts code (code_length atoms N E r (atom_at s) t a b) (λ d x. x) c in
    let (sk, inside, lettered, valences) = (letters_accepted size valence N E r s).0 k in
    let clear = (marks_accepted atoms code size valence bonds (omega arith) some_bonds).1 (record { number = N; edges = E; root = r; label = atom_at s; tree = t; inside = (a, b); is = refl }, sk, valences) in
    let (ρ, root, keeps) = code-decode atoms N E r (atom_at s) t a b in
    back N E s code t (code_length atoms N E r (atom_at s) t a b) clear (ρ, keeps) (spelled_clear code clear) h i
    (subst (λ x. NamedDecodeCode x (letters_of code) old' new' o) p (subst (λ l. NamedDecodeCode (take n new.0) l old' new' o) q g))

-- ---- N-tuple and centred codes

module _ (form : NamedForm) (f : IsFormₗ atoms form) where
  -- digits with letters of the form: no row of a code refuses them, the marks are the code of what they decode to, and the edges and letters are what decoding gave
  pub form-decoded :
      (ds ls : List ℕ) (old new : TwoOutputs) (m : ℕ) → NamedDecodeForm form ds ls old new (gives m)
      → (k : Clear (lettered_code_rows size valence ds ls)) × form (length ds) (decode ds) (atom_at ls) (marks_of ds ls) × (take m new.0 ≡ decode ds) × (take (length ds) new.1 ≡ ls)
  form-decoded ds ls old new m d =
      let c : List ℕ = marks_of ds ls in
      let (k, e, p, q) = given-parts (decode ds) ls (λ F l x. x) d in
      let l = clear_left (lettered_code_rows size valence ds ls) (row14ₗ atoms form c ∷ []) k in
      let (r, x) = (form_passesₗ atoms form f c size valence bonds few_bonds).0 (clear_both (marks_clear ds ls l) (clear_right (lettered_code_rows size valence ds ls) (row14ₗ atoms form c ∷ []) k)) in (
        l,
        subst (λ (z : List ℕ). form (length ds) (decode z) (atom_at ls) c) (sym (told-digits ds ls l))
            (subst (λ n. form n (decode (digits atoms c)) (atom_at ls) c) (marks_many ds ls l) (subst (λ b. form (length c) (decode (digits atoms c)) b c) (told-labels ds ls l) x)),
        p,
        handed ds ls l new q,
      )

  form_again :
      (ds ls : List ℕ) (old new : TwoOutputs) (m : ℕ) (old' new' : TwoOutputs) (o : Outcome ℕ) → NamedDecodeForm form ds ls old new (gives m) → length ds ≤ length old'.0
      → length ds ≤ length old'.1 → NamedFormCode form (length ds) (take m new.0) (take (length ds) new.1) old' new' o → GivenBoth ds ls old' new' o
  form_again ds ls old new m old' new' o d h i g =
      let (k, own, p, q) = form-decoded ds ls old new m d in
      again ds ls k (its_rows ds ls k) own (λ c x. f.one (length ds) (decode ds) (atom_at ls) (tree_of (length ds) (decode ds) 1 ls (its_rows ds ls k)) x own) h i
      (subst (λ F. NamedFormCode form (length ds) F ls old' new' o) p (subst (λ l. NamedFormCode form (length ds) (take m new.0) l old' new' o) q g))

  form-back :
      (N : ℕ) (E s : List ℕ) (old new : TwoOutputs) (n : ℕ) (old' new' : TwoOutputs) (o : Outcome ℕ) → NamedFormCode form N E s old new (gives n) → length E ≤ length old'.0
      → N ≤ length old'.1 → NamedDecodeForm form (take n new.0) (take n new.1) old' new' o → NamedRenumbered N E s new' o
  form-back N E s old new n old' new' o c h i g =
      let (k, (d, l, (code, x, u, v), e, a, b)) = gave_both c in
      let t = tree_of N E 1 s k in
      let sized = form_sizeₗ atoms form f N E (atom_at s) code t x in
      let (p, q) = spelled-parts code sized (λ b z. f.one N E (atom_at s) t z x) c in
      let (sk, inside, lettered, valences) = (letters_accepted size valence N E 1 s).0 k in
      let rows = form_acceptedₗ atoms form f code size valence bonds (omega arith) some_bonds N E (atom_at s) sk valences x in
      let clear = clear_left (row3 size (length code) ∷ mark_rows atoms valence bonds code) (row14ₗ atoms form code ∷ []) rows in
      let all : Clear (lettered_form_rows form size valence (digits atoms code) (letters_of code)) =
      clear_both (spelled_clear code clear) (subst (λ z. Clear (row14ₗ atoms form z ∷ [])) (sym (spelled-marks code)) (clear_right (row3 size (length code) ∷ mark_rows atoms valence bonds code) (row14ₗ atoms form code ∷ []) rows)) in
      back N E s code t sized clear (form_decodedₗ atoms form f N E (atom_at s) code t x) all h i
      (subst (λ z. NamedDecodeForm form z (letters_of code) old' new' o) p (subst (λ l. NamedDecodeForm form (take n new.0) l old' new' o) q g))

pub named-n_tuple_again :
    (ds ls : List ℕ) (old new : TwoOutputs) (m : ℕ) (old' new' : TwoOutputs) (o : Outcome ℕ) → NamedDecodeForm (IsNTupleₗ atoms) ds ls old new (gives m) → length ds ≤ length old'.0
    → length ds ≤ length old'.1 → NamedFormCode (IsNTupleₗ atoms) (length ds) (take m new.0) (take (length ds) new.1) old' new' o → GivenBoth ds ls old' new' o
named-n_tuple_again = form_again (IsNTupleₗ atoms) (n_tuple_formₗ atoms)

pub named-n_tuple-back :
    (N : ℕ) (E s : List ℕ) (old new : TwoOutputs) (n : ℕ) (old' new' : TwoOutputs) (o : Outcome ℕ) → NamedFormCode (IsNTupleₗ atoms) N E s old new (gives n) → length E ≤ length old'.0
    → N ≤ length old'.1 → NamedDecodeForm (IsNTupleₗ atoms) (take n new.0) (take n new.1) old' new' o → NamedRenumbered N E s new' o
named-n_tuple-back = form-back (IsNTupleₗ atoms) (n_tuple_formₗ atoms)

pub named-centred_again :
    (ds ls : List ℕ) (old new : TwoOutputs) (m : ℕ) (old' new' : TwoOutputs) (o : Outcome ℕ) → NamedDecodeForm (IsCentredₗ atoms) ds ls old new (gives m) → length ds ≤ length old'.0
    → length ds ≤ length old'.1 → NamedFormCode (IsCentredₗ atoms) (length ds) (take m new.0) (take (length ds) new.1) old' new' o → GivenBoth ds ls old' new' o
named-centred_again = form_again (IsCentredₗ atoms) (centred_formₗ atoms)

pub named-centred-back :
    (N : ℕ) (E s : List ℕ) (old new : TwoOutputs) (n : ℕ) (old' new' : TwoOutputs) (o : Outcome ℕ) → NamedFormCode (IsCentredₗ atoms) N E s old new (gives n) → length E ≤ length old'.0
    → N ≤ length old'.1 → NamedDecodeForm (IsCentredₗ atoms) (take n new.0) (take n new.1) old' new' o → NamedRenumbered N E s new' o
named-centred-back = form-back (IsCentredₗ atoms) (centred_formₗ atoms)
