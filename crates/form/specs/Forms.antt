-- What the N-tuple code and the centred code have in common (`IsForm`), and what follows from that alone.
--
-- In order: the form, which is that of `Labelled` at one label, and that both are one; what the code of a tree is and decodes to; that
-- equal codes come from the same skeleton. What the refusal table lets pass of them is in `Accepted`. Assumes nothing.
use Rattle.std.specs.Prelude.{◌≡◌, refl, ◌↔◌, List, ℕ, ◌≤◌, length}
use Rattle.std.proofs.Common.{ap, sym, ◌∙◌, subst}
use Rattle.digit_code.specs.document.Code.{decode}
use Rattle.digit_code.specs.Ends.{Ends}
use Rattle.skeleton.specs.document.Skeleton.{IsTree, rooted, Renumbering}
use Rattle.skeleton.specs.IsRooted.{IsRooted}
use Rattle.skeleton.specs.document.Label.{rootedₗ, digits, labels}
use Rattle.skeleton.specs.Base.{base, rooted-base, digits-base}
use Rattle.skeleton.specs.Theorems.{decode-code}
use Rattle.form.specs.document.Form.{NTuple, Centred, IsNTuple, IsCentred}
use Rattle.form.specs.document.Labelled.{IsCentredₗ, Own}
use Rattle.form.specs.Labelled.{IsFormₗ, n_tuple_formₗ, centred_formₗ, form_sizeₗ, form_decodedₗ, form_againₗ, form_verdictₗ}

-- c is the rooted code of the tree at one of its vertices
abbrev pub AtRoot : ℕ → List ℕ → List ℕ → Type 0
AtRoot N E c = (r : ℕ) × ((1 ≤ r) × (r ≤ N)) × (c ≡ rooted N E r)

-- a form of code: one of a tree's rooted codes, the same under other numbers
pub record IsForm (form : ℕ → List ℕ → List ℕ → Type 0) : Type 0 where
  -- a tree has not two codes of the form
  pub one : {N : ℕ} {E c d : List ℕ} → IsTree N E → form N E c → form N E d → c ≡ d
  -- it has one
  pub some : (N : ℕ) (E : List ℕ) → IsTree N E → (c : List ℕ) × form N E c
  -- which is the rooted code at one of its vertices
  pub at-root : (N : ℕ) (E c : List ℕ) → IsTree N E → form N E c → AtRoot N E c
  -- and the same skeleton under other numbers has it too
  pub carried : (N : ℕ) (E F c : List ℕ) → IsTree N E → Renumbering N E F → form N E c → form N F c

-- it is a form where there is one label
pub labelled : {form : ℕ → List ℕ → List ℕ → Type 0} → IsForm form → IsFormₗ base (λ N E l c. form N E c)
labelled f = record {
  one = λ N E l t x y. f.one t x y;
  some = λ N E l t. f.some N E t;
  at-root = λ N E l c t x. let (r, i, e) = f.at-root N E c t x in (r, i, e ∙ sym (rooted-base l N E r));
  carried = λ N E F l m c t (ρ, k) x. f.carried N E F c t ρ x;
}

-- and nothing else is
unlabelled : {form : ℕ → List ℕ → List ℕ → Type 0} → IsFormₗ base (λ N E l c. form N E c) → IsForm form
unlabelled f = record {
  one = λ {N} {E} {c} {d} t x y. f.one N E (λ v. tt) t x y;
  some = λ N E t. f.some N E (λ v. tt) t;
  at-root = λ N E c t x. let (r, i, e) = f.at-root N E (λ v. tt) c t x in (r, i, e ∙ rooted-base (λ v. tt) N E r);
  carried = λ N E F c t ρ x. f.carried N E F (λ v. tt) (λ v. tt) c t (ρ, λ v a b. refl) x;
}

-- the codes at each root
at_base : (N : ℕ) (E : List ℕ) (l : ℕ → Unit {0}) → rootedₗ base l N E ≡ rooted N E
at_base N E l = λ i r. rooted-base l N E r i

-- digits are the centred code of what they decode to, with one label or with none
pub own_base : (c : List ℕ) → Own base (IsCentredₗ base) c ≡ IsCentred (length c) (decode c) c
own_base c =
    ap (λ at. Centred (length c) (decode (digits base c)) at c) (at_base (length c) (decode (digits base c)) (labels base c))
    ∙ ap (λ d. IsCentred (length c) (decode d) c) (digits-base c)

pub n_tuple-form : IsForm IsNTuple
n_tuple-form = unlabelled (subst (IsFormₗ base) (λ i N E l c. NTuple N E (at_base N E l i) c) (n_tuple_formₗ base))

pub centred-form : IsForm IsCentred
centred-form = unlabelled (subst (IsFormₗ base) (λ i N E l c. Centred N E (at_base N E l i) c) (centred_formₗ base))

module _ (form : ℕ → List ℕ → List ℕ → Type 0) (f : IsForm form) where
  -- the code c of a tree
  module _ (N : ℕ) (E c : List ℕ) (t : IsTree N E) (x : form N E c) where
    unfoldable pub is_rooted : IsRooted c
    is_rooted =
        let (r, i, e) = f.at-root N E c t x in
        record { number = N; edges = E; root = r; tree = t; inside = i; is = e }

    pub form-size : length c ≡ N
    form-size = form_sizeₗ base (λ N E l c. form N E c) (labelled f) N E (λ v. tt) c t x

    pub form_ends : Ends 1 c
    form_ends = ((decode-code c).0 is_rooted).0

    -- what it decodes to is the skeleton that was coded
    pub form-decoded : Renumbering N E (decode c)
    form-decoded = rw digits-base at (form_decodedₗ base (λ N E l c. form N E c) (labelled f) N E (λ v. tt) c t x).0

    -- and has the same code again
    pub form_again : form (length c) (decode c) c
    form_again = rw digits-base at (form_againₗ base (λ N E l c. form N E c) (labelled f) N E (λ v. tt) c t x)

  -- trees have one code exactly when they are the same under other numbers, of equally many vertices
  pub form-verdict : (N P : ℕ) (E F c d : List ℕ) → IsTree N E → IsTree P F → form N E c → form P F d → (c ≡ d) ↔ ((N ≡ P) × Renumbering N E F)
  form-verdict N P E F c d t u x y =
      let (there, back) = form_verdictₗ base (λ N E l c. form N E c) (labelled f) N P E F (λ v. tt) (λ v. tt) c d t u x y in
      (λ e. let (n, (ρ, k)) = there e in (n, ρ), λ (n, ρ). back (n, (ρ, λ v a b. refl)))
