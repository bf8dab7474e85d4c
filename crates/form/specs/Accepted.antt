-- What rows 3 and 10 to 14 of "Refusal numbers" let pass: exactly the codes of skeletons that are of the form asked for. Such a code
-- decodes to a skeleton, and that one's code is the code itself. Assumes nothing.
use Rattle.std.specs.Prelude.{◌≡◌, refl, ◌↔◌, List, [], ◌∷◌, ◌++◌, ℕ, ◌≤◌, length}
use Rattle.std.proofs.Common.{arith}
use Rattle.refusal.specs.document.Table.{Row, Clear, row3}
use Rattle.refusal.specs.Laws.{clear_one, clear_both, clear_left, never}
use Rattle.refusal.specs.Laws as Laws
use Rattle.digit_code.specs.document.Code.{decode, code_rows}
use Rattle.digit_code.specs.Ends.{Ends}
use Rattle.digit_code.specs.Right.{RightCode, Rightₗ, right_clear, clear_right}
use Rattle.skeleton.specs.document.Skeleton.{IsSkeleton}
use Rattle.skeleton.specs.Theorems.{decode-code, decoded_tree, degrees}
use Rattle.skeleton.specs.Ordered.{code-ordered}
use Rattle.skeleton.specs.document.Label.{Marks, digits}
use Rattle.skeleton.specs.Label.{Valences, mark_rows}
use Rattle.skeleton.specs.Base.{base, digits-base}
use Rattle.skeleton.specs.Accepted.{code_passes, marks_accepted, right_marks}
use Rattle.form.specs.document.Form.{form_rows}
use Rattle.form.specs.document.Labelled.{Own, row14ₗ}
use Rattle.form.specs.Labelled.{form_rowsₗ, IsFormₗ, is_rootedₗ, form_againₗ, form_decidedₗ}
use Rattle.form.specs.Forms.{IsForm, labelled, is_rooted, form_again}

-- a right rooted code decodes to a skeleton
pub right_decoded : (most R : ℕ) (c : List ℕ) → RightCode most R c → IsSkeleton most R (length c) (decode c)
right_decoded most R c r = record {
  tree = decoded_tree c r.ends;
  few = r.few;
  degrees =
      let (h, e) = (decode-code c).0 ((code-ordered c).1 (r.ends, r.ordered)) in
      (degrees (length c) (decode c) 1 (decoded_tree c r.ends) (omega arith) r.some R).1 (rw e r.small);
}

-- ---- where vertices have labels

module _ (M : Marks) (form : ℕ → List ℕ → (ℕ → M.Label) → List ℕ → Type 0) (f : IsFormₗ M form) (c : List ℕ) where
  -- rows that let pass only marks whose digits end, and row 14 behind them
  pub own_passes : (rows : List Row) → (Clear rows → Ends 1 (digits M c)) → Clear (rows ++ (row14ₗ M form c ∷ [])) ↔ (Clear rows × Own M form c)
  own_passes rows ends = (
    λ k.
        let r : Clear rows = clear_left rows (row14ₗ M form c ∷ []) k in
        (r, is (form_decidedₗ M form f c (ends r)) (never (Laws.clear_right rows (row14ₗ M form c ∷ []) k) 0)),
    λ (r, x). clear_both r (clear_one {r = row14ₗ M form c} (λ p a. a.1 x)),
  )
    where
      is : Dec (Own M form c) → ((row14ₗ M form c).applies 0 → ⊥) → Own M form c
      is (yes x) n = x
      is (no m) n = absurd (n (refl, m))

  -- no row applies to a right code of marks of the form, and to no other marks, where no label allows more than R neighbours
  pub form_passesₗ : (size R : ℕ) (most : M.Label → ℕ) → ((a : M.Label) → most a ≤ R)
      → Clear (form_rowsₗ M form size R most c) ↔ (Rightₗ M.arity (λ m. most (M.atom m)) size c × Own M form c)
  unfolding digits
  form_passesₗ size R most low =
      let right = right_marks M c size R most low in
      let own = own_passes (row3 size (length c) ∷ mark_rows M R most c) (λ k. (right.1 k).ends) in
      (λ k. let (r, x) = own.0 k in (right.1 r, x), λ (r, x). own.1 (right.0 r, x))

  -- the code of a skeleton in which no vertex has more neighbours than its label allows passes
  pub form_acceptedₗ : (size R : ℕ) (most : M.Label → ℕ) → 1 ≤ R → ((a : M.Label) → 1 ≤ most a) → (N : ℕ) (E : List ℕ) (l : ℕ → M.Label)
      → IsSkeleton size R N E → Valences M most l N E → form N E l c → Clear (form_rowsₗ M form size R most c)
  unfolding is_rootedₗ
  form_acceptedₗ size R most some one N E l s v x =
      clear_both ((marks_accepted M c size R most some one).1 (is_rootedₗ M form f N E l c s.tree x, s, v))
      (clear_one {r = row14ₗ M form c} (λ p a. a.1 (form_againₗ M form f N E l c s.tree x)))

-- ---- document 01's codes

module _ (form : ℕ → List ℕ → List ℕ → Type 0) (f : IsForm form) (most R : ℕ) (c : List ℕ) where
  -- no row applies to a right rooted code of the form, and to no other digits
  pub form_passes : Clear (form_rows form most R c) ↔ (RightCode most R c × form (length c) (decode c) c)
  form_passes =
      let own = own_passes base (λ N E l c. form N E c) (labelled f) c (code_rows most R c) (λ k. rw digits-base (clear_right most R c k).ends) in
      let (there, back) = rw digits-base at own in
      (λ k. let (r, x) = there k in (clear_right most R c r, x), λ (r, x). back (right_clear most R c r, x))

  -- a skeleton's code passes
  pub form_accepted : (N : ℕ) (E : List ℕ) → IsSkeleton most R N E → form N E c → Clear (form_rows form most R c)
  unfolding is_rooted
  form_accepted N E s x =
      form_passes.1 (clear_right most R c ((code_passes most R c).1 (is_rooted form f N E c s.tree x, s)), form_again form f N E c s.tree x)

  -- and nothing else
  pub form_exactly : Clear (form_rows form most R c) ↔ ((N : ℕ) × (E : List ℕ) × IsSkeleton most R N E × form N E c)
  form_exactly = (
    λ k. let (r, x) = form_passes.0 k in (length c, decode c, right_decoded most R c r, x),
    λ (N, E, s, x). form_accepted N E s x,
  )

  -- what passes, decoded and coded, is itself
  pub form_itself : Clear (form_rows form most R c) → (d : List ℕ) → form (length c) (decode c) d → d ≡ c
  form_itself k d y = let (r, x) = form_passes.0 k in f.one (decoded_tree c r.ends) y x
