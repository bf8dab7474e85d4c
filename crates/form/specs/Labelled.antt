-- What the N-tuple code and the centred code have in common where vertices have labels (`IsFormₗ`), and what follows from that alone;
-- `Forms` has it for document 01's codes, where there is one label.
--
-- In order: its root; its rows; the form, and that both are one; what the code of a tree is and decodes to; that equal codes come
-- from the same skeleton with the same labels; whether marks are of the form. Assumes nothing.
use Rattle.std.specs.Prelude.{◌≡◌, ◌↔◌, ℕ, ◌≤◌, length}
use Rattle.std.proofs.Common.{ap, sym, ◌∙◌, subst, ⊎_elim}
use mathlib.Core.List.{List, [], ◌∷◌, ◌++◌, List-discrete}
use Rattle.std.proofs.Math.Decide.{ℕ_discrete}
use Rattle.refusal.specs.document.Table.{Row, row3}
use Rattle.digit_code.specs.document.Code.{decode}
use Rattle.digit_code.specs.Ends.{Ends}
use Rattle.skeleton.specs.document.Skeleton.{IsTree, Renumbering}
use Rattle.skeleton.specs.document.Label.{Marks, rootedₗ, digits, labels, Keeps}
use Rattle.skeleton.specs.Label.{IsRootedₗ, mark_rows}
use Rattle.skeleton.specs.General.{code_length, decoded_tree, code-decode, equal-codes}
use Rattle.longest_path.specs.Theorems.{centre_inside}
use Rattle.form.specs.document.Labelled.{IsNTupleₗ, IsCentredₗ, Own, row14ₗ}
use Rattle.form.specs.document.Root.{RootOf}
use Rattle.form.specs.One.{one-n_tuple, one-centred, some_n_tuple, some_centred}
use Rattle.form.specs.Carried.{rooted_carriedₗ, carry-n_tuple, carry-centred}

module _ (M : Marks) where
  -- r is the root of the centred code's numbering
  abbrev pub CentredRootₗ : ℕ → List ℕ → (ℕ → M.Label) → ℕ → Type 0
  CentredRootₗ N E l r = RootOf N E (rootedₗ M l N E) r

  -- what is refused of marks that are to be of a form
  abbrev pub form_rowsₗ : (ℕ → List ℕ → (ℕ → M.Label) → List ℕ → Type 0) → ℕ → ℕ → (M.Label → ℕ) → List ℕ → List Row
  form_rowsₗ form code_length R most c = (row3 code_length (length c) ∷ mark_rows M R most c) ++ (row14ₗ M form c ∷ [])

  -- c is the rooted code of the tree at one of its vertices
  abbrev pub AtRootₗ : ℕ → List ℕ → (ℕ → M.Label) → List ℕ → Type 0
  AtRootₗ N E l c = (r : ℕ) × ((1 ≤ r) × (r ≤ N)) × (c ≡ rootedₗ M l N E r)

  -- the same skeleton under other numbers, with the same labels
  abbrev pub Alike : (N : ℕ) (E F : List ℕ) → (ℕ → M.Label) → (ℕ → M.Label) → Type 0
  Alike N E F l m = (ρ : Renumbering N E F) × Keeps M N E F l m ρ

  -- a form of code: one of a tree's rooted codes, the same under other numbers
  pub record IsFormₗ (form : ℕ → List ℕ → (ℕ → M.Label) → List ℕ → Type 0) : Type 0 where
    -- a tree has not two codes of the form
    pub one : (N : ℕ) (E : List ℕ) (l : ℕ → M.Label) {c d : List ℕ} → IsTree N E → form N E l c → form N E l d → c ≡ d
    -- it has one
    pub some : (N : ℕ) (E : List ℕ) (l : ℕ → M.Label) → IsTree N E → (c : List ℕ) × form N E l c
    -- which is the rooted code at one of its vertices
    pub at-root : (N : ℕ) (E : List ℕ) (l : ℕ → M.Label) (c : List ℕ) → IsTree N E → form N E l c → AtRootₗ N E l c
    -- and the same skeleton under other numbers, with the same labels, has it too
    pub carried : (N : ℕ) (E F : List ℕ) (l m : ℕ → M.Label) (c : List ℕ) → IsTree N E → Alike N E F l m → form N E l c → form N F m c

  pub n_tuple_formₗ : IsFormₗ (IsNTupleₗ M)
  n_tuple_formₗ = record {
    one = λ N E l t x y. one-n_tuple t x y;
    some = λ N E l t. some_n_tuple N E (rootedₗ M l N E) t;
    at-root = λ N E l c t x. (x.root, x.inside, x.is);
    carried = λ N E F l m c t (ρ, k) x. carry-n_tuple N E F t ρ (rootedₗ M l N E) (rootedₗ M m N F) (rooted_carriedₗ M N E F l m t ρ k) x;
  }

  pub centred_formₗ : IsFormₗ (IsCentredₗ M)
  centred_formₗ = record {
    one = λ N E l t x y. one-centred t x y;
    some = λ N E l t. some_centred N E (rootedₗ M l N E) t;
    at-root = λ N E l c t x.
        let (a, b) = centre_inside N E t x.first x.second x.centre in
        ⊎_elim (λ e. (x.first, a, e)) (λ e. (x.second, b, e)) x.either;
    carried = λ N E F l m c t (ρ, k) x. carry-centred N E F t ρ (rootedₗ M l N E) (rootedₗ M m N F) (rooted_carriedₗ M N E F l m t ρ k) x;
  }

module _ (M : Marks) (form : ℕ → List ℕ → (ℕ → M.Label) → List ℕ → Type 0) (f : IsFormₗ M form) where
  -- the code c of a tree with the labels l
  module _ (N : ℕ) (E : List ℕ) (l : ℕ → M.Label) (c : List ℕ) (t : IsTree N E) (x : form N E l c) where
    unfoldable pub is_rootedₗ : IsRootedₗ M c
    is_rootedₗ =
        let (r, i, e) = f.at-root N E l c t x in
        record { number = N; edges = E; label = l; root = r; tree = t; inside = i; is = e }

    pub form_sizeₗ : length c ≡ N
    form_sizeₗ = let (r, (a, b), e) = f.at-root N E l c t x in ap length e ∙ code_length M N E r l t a b

    -- what it decodes to is the skeleton that was coded, with its labels
    pub form_decodedₗ : Alike M N E (decode (digits M c)) l (labels M c)
    form_decodedₗ =
        let (r, (a, b), e) = f.at-root N E l c t x in
        let (ρ, i, k) = code-decode M N E r l t a b in
        subst (λ d. Alike M N E (decode (digits M d)) l (labels M d)) (sym e) (ρ, k)

    -- and has the same code again
    pub form_againₗ : Own M form c
    form_againₗ = rw form_sizeₗ (f.carried N E (decode (digits M c)) l (labels M c) c t form_decodedₗ x)

  -- two trees have one code exactly when they are the same under other numbers, with the same labels
  form_sameₗ : (N : ℕ) (E F : List ℕ) (l m : ℕ → M.Label) (c d : List ℕ) → IsTree N E → IsTree N F → form N E l c → form N F m d → (c ≡ d) ↔ Alike M N E F l m
  form_sameₗ N E F l m c d t u x y = (
    λ e.
        let (r, (a, b), i) = f.at-root N E l c t x in
        let (q, (g, h), j) = f.at-root N F m d u y in
        let (ρ, o, k) = (equal-codes M N E r l t a b F q m u g h).0 (sym i ∙ e ∙ j) in
        (ρ, k),
    λ ρ. f.one N F m u (f.carried N E F l m c t ρ x) y,
  )

  -- trees of different sizes have different codes
  pub form_verdictₗ : (N P : ℕ) (E F : List ℕ) (l m : ℕ → M.Label) (c d : List ℕ) → IsTree N E → IsTree P F → form N E l c → form P F m d
      → (c ≡ d) ↔ ((N ≡ P) × Alike M N E F l m)
  form_verdictₗ N P E F l m c d t u x y = (
    λ e. let n : N ≡ P = sym (form_sizeₗ N E l c t x) ∙ ap length e ∙ form_sizeₗ P F m d u y in (n, (alike n).0 e),
    λ (n, ρ). (alike n).1 ρ,
  )
    where
      alike : N ≡ P → (c ≡ d) ↔ Alike M N E F l m
      alike n = form_sameₗ N E F l m c d t (subst (λ i. IsTree i F) (sym n) u) x (subst (λ i. form i F m d) (sym n) y)

  -- marks whose digits end are of the form, or are not
  pub form_decidedₗ : (c : List ℕ) → Ends 1 (digits M c) → Dec (Own M form c)
  form_decidedₗ c h =
      let (d, x) = f.some (length c) (decode (digits M c)) (labels M c) (decoded_tree M c h) in
      step d x (List-discrete ℕ_discrete c d)
    where
      step : (d : List ℕ) → form (length c) (decode (digits M c)) (labels M c) d → Dec (c ≡ d) → Dec (Own M form c)
      step d x (yes e) = yes (subst (form (length c) (decode (digits M c)) (labels M c)) (sym e) x)
      step d x (no n) = no (λ y. n (f.one (length c) (decode (digits M c)) (labels M c) (decoded_tree M c h) y x))
