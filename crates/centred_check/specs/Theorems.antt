-- The test of a centred code by its marks, proved to be the definition: with labels, and for document 01's codes. Assumes nothing.
use Rattle.std.specs.Prelude.{◌≡◌, ◌↔◌, List, ℕ, ◌≤◌, length}
use Rattle.std.proofs.Common.{sym, subst, arith}
use Rattle.std.proofs.Math.ListN.{length-map}
use Rattle.digit_code.specs.document.Code.{plain, decode}
use Rattle.digit_code.specs.Ends.{Ends, ends_sum}
use Rattle.digit_code.specs.Ordered.{Ordered}
use Rattle.skeleton.specs.document.Skeleton.{IsTree}
use Rattle.skeleton.specs.document.Label.{Marks, rootedₗ, digits, labels}
use Rattle.skeleton.specs.Label.{IsRootedₗ}
use Rattle.skeleton.specs.Base.{base, digits-base}
use Rattle.skeleton.specs.General.{decode-code, decoded_tree}
use Rattle.skeleton.specs.Ordered.{code_orderedₗ}
use Rattle.form.specs.document.Form.{IsCentred}
use Rattle.form.specs.document.Labelled.{IsCentredₗ, Own}
use Rattle.form.specs.Labelled.{centred_formₗ, is_rootedₗ}
use Rattle.form.specs.Forms.{own_base}
use Rattle.centred_check.specs.Middle.{Middle}
use Rattle.centred_check.specs.Root.{middle_iff, centred-at, at-centred}

module _ (M : Marks) (c : List ℕ) (h : Ends 1 (digits M c)) where
  decoded : IsTree (length c) (decode (digits M c))
  decoded = decoded_tree M c h

  some : 1 ≤ length c
  unfolding digits
  some = omega (arith, ends_sum 1 (digits M c) h, length-map c M.arity)

  middle-centred : rootedₗ M (labels M c) (length c) (decode (digits M c)) 1 ≡ c → Middle M c ↔ Own M (IsCentredₗ M) c
  middle-centred e =
      let E : List ℕ = decode (digits M c) in
      let l : ℕ → M.Label = labels M c in (
        λ m. subst (λ x. IsCentredₗ M (length c) E l x) e
            (centred-at M l (length c) E decoded 1 (omega arith) some ((middle_iff M l (length c) E decoded 1 (omega arith) some).0 (subst (Middle M) (sym e) m))),
        λ k. subst (Middle M) e
            ((middle_iff M l (length c) E decoded 1 (omega arith) some).1 (at-centred M l (length c) E decoded 1 (omega arith) some (subst (λ x. IsCentredₗ M (length c) E l x) (sym e) k))),
      )

-- Marks are the centred code of what they decode to exactly when their digits end, no child's code is larger than that of the sibling
-- before it, and the root is in the centre with no larger code there.
fast_iffₗ : (M : Marks) (c : List ℕ) → (Ends 1 (digits M c) × Ordered M.arity c × Middle M c) ↔ (Ends 1 (digits M c) × Own M (IsCentredₗ M) c)
fast_iffₗ M c = (
  λ (h, o, m). (h, (middle-centred M c h ((decode-code M c).0 ((code_orderedₗ M c).1 (h, o))).1).0 m),
  λ (h, k).
      let r : IsRootedₗ M c = is_rootedₗ M (IsCentredₗ M) (centred_formₗ M) (length c) (decode (digits M c)) (labels M c) c (decoded M c h) k in
      (h, ((code_orderedₗ M c).0 r).1, (middle-centred M c h ((decode-code M c).0 r).1).1 k),
)

-- A rooted code is the centred one of what it decodes to exactly when its root is in the centre with no larger code there.
pub rooted-centredₗ : (M : Marks) (c : List ℕ) → Ends 1 (digits M c) → Ordered M.arity c → Middle M c ↔ Own M (IsCentredₗ M) c
rooted-centredₗ M c h o = (λ m. ((fast_iffₗ M c).0 (h, o, m)).1, λ k. ((fast_iffₗ M c).1 (h, k)).2)

-- ---- document 01's codes

-- Digits are the centred code of what they decode to exactly when they end, no child's code is larger than that of the sibling before it,
-- and the root is in the centre with no larger code there.
pub fast_iff : (c : List ℕ) → (Ends 1 c × Ordered plain c × Middle base c) ↔ (Ends 1 c × IsCentred (length c) (decode c) c)
fast_iff c = rw (own_base, digits-base) at (fast_iffₗ base c)
