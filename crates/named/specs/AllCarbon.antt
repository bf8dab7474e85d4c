-- "an all-carbon skeleton keeps its old codes": where every letter is C, the calls on named atoms answer as the plain calls of edition 1. What they give is what these give, and the letters beside it are all C; a list is
-- refused as one without letters.
--
-- In order: the table; codes; the verdict; equal vertices. Assumes nothing.
use Rattle.std.specs.Prelude.{◌≡◌, refl, Bool, true, false, List, [], ◌∷◌, ◌++◌, map, ℕ, ◌<◌, length}
use Rattle.std.proofs.Common.{sym, ap, ◌∙◌, subst, inl, arith}
use Rattle.refusal.specs.document.Table.{Row, Clear, FirstRefusal, gives, kept, Promise, Writes, Gives, short}
use Rattle.refusal.specs.document.Both.{TwoOutputs, WritesBoth, short_both, GivesBoth}
use Rattle.refusal.specs.Laws.{clear_both, clear_left, clear_right, clear_one, never, refusal_front}
use Rattle.refusal.specs.Giving.{given}
use Rattle.refusal.specs.Lists.{lists_clear}
use Rattle.limits.specs.document.Limits.{size, valence}
use Rattle.edition.specs.document.Edition.{neighbours_in}
use Rattle.edition.specs.Laws.{edition_clear}
use Rattle.skeleton.specs.document.Label.{rootedₗ, digits}
use Rattle.skeleton.specs.document.Atom.{atom_at}
use Rattle.skeleton.specs.document.AtomMarks.{atoms}
use Rattle.skeleton.specs.Carbon.{carbon, carbon_mark}
use Rattle.skeleton.proofs.Carbon.{carbon-digits, all-carbon-digits}
use Rattle.letters.specs.document.Letters.{row14_atom, AllCarbon}
use Rattle.letters.specs.Lettered.{carbon-at}
use Rattle.edge_list.specs.document.Edges.{edge_rows}
use Rattle.edge_list.specs.document.Letters.{letter_rows}
use Rattle.edge_list.specs.Letters.{carbon-plain, carbon-refused}
use Rattle.form.specs.document.Form.{IsNTuple, IsCentred}
use Rattle.form.specs.Forms.{IsForm, n_tuple-form, centred-form, form-size}
use Rattle.form.specs.document.Labelled.{IsNTupleₗ, IsCentredₗ}
use Rattle.form.specs.Rewritten.{n_tuple-carbon, centred-carbon}
use Rattle.orbits.specs.document.Carried.{ClassesOf, ClassesOfₗ}
use Rattle.orbits.specs.Theorems.{classes-carbon}
use Rattle.zurkhovel.specs.document.InEdition.{edge_table}
use Rattle.zurkhovel.specs.document.Codes.{RootedCode, FormCode}
use Rattle.zurkhovel.specs.document.Same.{SameSkeleton, EqualCodes}
use Rattle.zurkhovel.specs.document.Alike.{EqualVertices}
use Rattle.zurkhovel.specs.Accepted.{rooted-size, tree_of}
use Rattle.zurkhovel.specs.Theorems.{both_clear}
use Rattle.named.specs.document.Codes.{NamedForm, NamedRootedCode, NamedFormCode}
use Rattle.named.specs.document.Same.{named_list_rows, NamedEqualCodes, NamedSameSkeleton}
use Rattle.named.specs.document.Alike.{NamedEqualVertices}

module _ (N : ℕ) (E s : List ℕ) (many : length s ≡ N) (h : AllCarbon s) where
  -- ---- the table

  -- the atoms are carbon
  atoms-carbon : atom_at s ≡ carbon
  atoms-carbon = λ i v. carbon-at s h v i

  -- what the letters' table clears, that of edition 1 does
  plain_clear : (r : ℕ) → Clear (letter_rows size valence N E r s) → Clear (edge_table 1 size N E r)
  unfolding neighbours_in
  plain_clear r k =
      clear_both (edition_clear (inl refl))
      ((carbon-plain size valence N E r s (omega arith) many h).0 (clear_both k (clear_one {r = row14_atom s} (λ p (a, b, m). m (carbon-at s h p)))))

  -- A list of carbon alone is refused as one without letters.
  pub carbon-list-refused : (r : ℕ) {k p : ℕ} → FirstRefusal (letter_rows size valence N E r s) k p → FirstRefusal (edge_rows size valence N E r) k p
  carbon-list-refused r l = (carbon-refused size valence N E r s (omega arith) many h).0 (refusal_front (row14_atom s ∷ []) l)

  -- ---- codes

  -- what is given in two parts, of which the first is the plain result
  first-given :
      {rs ps : List Row} {Right : List ℕ → List ℕ → Type 0} {Plain : List ℕ → Type 0} {old new : TwoOutputs} {n m : ℕ} → (Clear rs → Clear ps) → ((c l : List ℕ) → Right c l → Plain c)
      → (Clear ps → (c : List ℕ) → Plain c → length c ≡ m) → GivesBoth rs Right old new (gives n) → Gives ps Plain old.0 new.0 (gives n)
  first-given {rs} {ps} {Right} {Plain} {old} {new} {n} {m} clear plain sized g = by g.promise
    where
      by : Promise (rs ++ short_both Right old) (WritesBoth Right old) old new (gives n) → Gives ps Plain old.0 new.0 (gives n)
      by (kept c w) =
          let k = clear (clear_left rs (short_both Right old) c) in
          let p = plain w.first w.second w.right in
          let z = sized k w.first p in
          let f : length old.0 < length w.first → ⊥ = λ q. never (clear_right rs (short_both Right old) c) (length w.first) (w.first, (w.second, w.right), (refl, q)) in
          subst (λ x. Gives ps Plain old.0 new.0 (gives x)) (sym (w.count ∙ z)) (given k (sized k) (omega (arith, z)) (record { result = w.first; right = p; count = sym z; lies = w.first_lies }))

  -- The rooted code of carbon alone is the plain one.
  pub carbon-rooted-code : (r : ℕ) (old new : TwoOutputs) (n : ℕ) → NamedRootedCode N E s r old new (gives n) → RootedCode 1 N E r old.0 new.0 (gives n)
  carbon-rooted-code r old new n g =
      first-given (plain_clear r)
      (λ d l (c, x, p, q). p ∙ ap (digits atoms) (x ∙ ap (λ a. rootedₗ atoms a N E r) atoms-carbon) ∙ all-carbon-digits N E r)
      (λ k c e. ap length e ∙ rooted-size E k) g

  carbon-form-code :
      (named : NamedForm) (form : ℕ → List ℕ → List ℕ → Type 0) → IsForm form → ((c : List ℕ) → named N E carbon c → (d : List ℕ) × (c ≡ map carbon_mark d) × form N E d)
      → (old new : TwoOutputs) (n : ℕ) → NamedFormCode named N E s old new (gives n) → FormCode 1 form N E old.0 new.0 (gives n)
  carbon-form-code named form f plain old new n g =
      first-given (plain_clear 1)
      (λ d l (c, x, p, q).
      let (b, e, y) = plain c (subst (λ a. named N E a c) atoms-carbon x) in
      subst (form N E) (sym (p ∙ ap (digits atoms) e ∙ carbon-digits b)) y)
      (λ k c y. form-size form f N E c (tree_of N E 1 k) y) g

  -- So are the N-tuple code and the centred code.
  pub carbon-n_tuple-code : (old new : TwoOutputs) (n : ℕ) → NamedFormCode (IsNTupleₗ atoms) N E s old new (gives n) → FormCode 1 IsNTuple N E old.0 new.0 (gives n)
  carbon-n_tuple-code = carbon-form-code (IsNTupleₗ atoms) IsNTuple n_tuple-form (λ c x. (n_tuple-carbon N E c).0 x)

  pub carbon-centred-code : (old new : TwoOutputs) (n : ℕ) → NamedFormCode (IsCentredₗ atoms) N E s old new (gives n) → FormCode 1 IsCentred N E old.0 new.0 (gives n)
  carbon-centred-code = carbon-form-code (IsCentredₗ atoms) IsCentred centred-form (λ c x. (centred-carbon N E c).0 x)

  -- ---- equal vertices

  -- The classes of carbon alone are the plain ones.
  pub carbon-equal-vertices : (old new : List ℕ) (n : ℕ) → NamedEqualVertices N E s old new (gives n) → EqualVertices 1 N E old new (gives n)
  carbon-equal-vertices old new n g = by g.promise
    where
      plain : (l : List ℕ) → (c : List ℕ) × IsCentredₗ atoms N E (atom_at s) c × ClassesOfₗ atoms c l → (c : List ℕ) × IsCentred N E c × ClassesOf c l
      plain l (c, x, y) =
          let (d, e, z) = (centred-carbon N E c).0 (subst (λ a. IsCentredₗ atoms N E a c) atoms-carbon x) in
          (d, z, (classes-carbon d l).0 (subst (λ m. ClassesOfₗ atoms m l) e y))

      sized : Clear (edge_table 1 size N E 1) → (l : List ℕ) → (c : List ℕ) × IsCentred N E c × ClassesOf c l → length l ≡ N
      sized k l (c, x, y) = y.count ∙ form-size IsCentred centred-form N E c (tree_of N E 1 k) x

      by : Promise (letter_rows size valence N E 1 s ++ (short (λ l. (c : List ℕ) × IsCentredₗ atoms N E (atom_at s) c × ClassesOfₗ atoms c l) (length old) ∷ [])) (Writes (λ l. (c : List ℕ) × IsCentredₗ atoms N E (atom_at s) c × ClassesOfₗ atoms c l) old) old new (gives n)
          → EqualVertices 1 N E old new (gives n)
      by (kept c w) =
          let k = plain_clear 1 (clear_left (letter_rows size valence N E 1 s) _ c) in
          let p = plain w.result w.right in
          let z = sized k w.result p in
          let f : length old < length w.result → ⊥ = λ q. never (clear_right (letter_rows size valence N E 1 s) _ c) (length w.result) (w.result, w.right, (refl, q)) in
          subst (λ x. EqualVertices 1 N E old new (gives x)) (sym (w.count ∙ z)) (given k (sized k) (omega (arith, z)) (record { result = w.result; right = p; count = sym z; lies = w.lies }))

-- ---- the verdict

-- The verdict on two lists of carbon alone is the plain one.
pub carbon-same-skeleton :
    (N : ℕ) (E s : List ℕ) (P : ℕ) (F u : List ℕ) → length s ≡ N → AllCarbon s → length u ≡ P → AllCarbon u → (b : Bool) → NamedSameSkeleton N E s P F u (gives b) → SameSkeleton 1 N E P F (gives b)
carbon-same-skeleton N E s P F u m h n i b (kept c x) =
    let (z, k, l) = (lists_clear [] (named_list_rows N E s) (named_list_rows P F u)).0 c in
    kept {a = b} ((both_clear N P E F).1 (plain_clear N E s m h 1 k, plain_clear P F u n i 1 l)) (by b x)
  where
    first : (c : List ℕ) → IsCentred N E c → IsCentredₗ atoms N E (atom_at s) (map carbon_mark c)
    first c y = subst (λ a. IsCentredₗ atoms N E a (map carbon_mark c)) (sym (atoms-carbon N E s m h)) ((centred-carbon N E (map carbon_mark c)).1 (c, refl, y))

    second : (c : List ℕ) → IsCentred P F c → IsCentredₗ atoms P F (atom_at u) (map carbon_mark c)
    second c y = subst (λ a. IsCentredₗ atoms P F a (map carbon_mark c)) (sym (atoms-carbon P F u n i)) ((centred-carbon P F (map carbon_mark c)).1 (c, refl, y))

    by : (b : Bool) → NamedEqualCodes N E s P F u b → EqualCodes N E P F b
    by true (c, x, y) =
        let (d, e, v) = (centred-carbon N E c).0 (subst (λ a. IsCentredₗ atoms N E a c) (atoms-carbon N E s m h) x) in
        let (g, f, w) = (centred-carbon P F c).0 (subst (λ a. IsCentredₗ atoms P F a c) (atoms-carbon P F u n i) y) in
        (d, v, subst (IsCentred P F) (sym (carbon-digits g) ∙ ap (digits atoms) (sym f ∙ e) ∙ carbon-digits d) w)
    by false q = λ c x y. q (map carbon_mark c) (first c x) (second c y)
