-- What rows 3 and 10 to 13 of "Refusal numbers" let pass: exactly the rooted codes of skeletons. First for marks, where row 20 bounds the
-- neighbours by the label; then for document 01's codes. Assumes nothing.
use Rattle.std.specs.Prelude.{◌≡◌, ◌↔◌, List, [], ◌∷◌, ℕ, zero, suc, ◌-◌, ◌≤◌, ◌<◌}
use Rattle.std.proofs.Math.Path.{refl}
use Rattle.std.proofs.Common.{ap, ◌∙◌, arith}
use Rattle.std.proofs.Math.Logic.{Iff.trans as iff_trans}
use Rattle.std.proofs.Math.ListN.{length, length-map}
use Rattle.refusal.specs.document.Table.{Clear, row3}
use Rattle.refusal.specs.Laws.{clear_one, clear_both, clear_left, clear_right, never, others, at_least, at_most, size_clear}
use Rattle.digit_code.specs.document.Code.{plain, digit, cap, row10, row11, row12, row13, digit_rows, code_rows}
use Rattle.digit_code.specs.Ends.{ends_iff}
use Rattle.digit_code.specs.Counting.{ends_whole, clear_ends}
use Rattle.digit_code.specs.Ordered.{never_larger}
use Rattle.digit_code.specs.Right.{Rightₗ, small_clear}
use Rattle.digit_code.specs.Two.{digit_at}
use Rattle.skeleton.specs.document.Skeleton.{Degrees, IsSkeleton}
use Rattle.skeleton.specs.IsRooted.{IsRooted}
use Rattle.skeleton.specs.document.Label.{Marks, digits, row20}
use Rattle.skeleton.specs.Label.{IsRootedₗ, Valences, Fits, Capped, mark_rows}
use Rattle.skeleton.specs.Degree.{fits_capped}
use Rattle.skeleton.specs.Base.{base, digits-base, is_rooted}
use Rattle.skeleton.specs.General as General
use Rattle.skeleton.specs.Theorems.{code_length, degrees}
use Rattle.skeleton.specs.Ordered.{code_orderedₗ}

cap-low : {m R : ℕ} → m ≤ R → (p : ℕ) → cap m p ≤ cap R p
cap-low h zero = h
cap-low h (suc zero) = h
cap-low h (suc (suc p)) = omega arith

module _ (M : Marks) (c : List ℕ) where
  -- rows 11 to 13 let pass exactly the rooted codes
  pub marks_pass : Clear (row11 (digits M c) ∷ row12 (digits M c) ∷ row13 M.arity c ∷ []) ↔ IsRootedₗ M c
  unfolding digits
  marks_pass = (
    λ x. (code_orderedₗ M c).1 (
      (ends_iff (digits M c)).1 (clear_ends (clear_left (row11 (digits M c) ∷ row12 (digits M c) ∷ []) (row13 M.arity c ∷ []) x)),
      (never_larger M.arity c).1 (never (clear_right (row11 (digits M c) ∷ row12 (digits M c) ∷ []) (row13 M.arity c ∷ []) x)),
    ),
    λ x.
        let (e, o) = (code_orderedₗ M c).0 x in
        clear_both {xs = row11 (digits M c) ∷ row12 (digits M c) ∷ []} (ends_whole ((ends_iff (digits M c)).0 e) (omega arith)) (clear_one ((never_larger M.arity c).0 o)),
  )

  -- row 10 bounds every mark alike
  cap_clear : (R : ℕ) → ((p : ℕ) → (row10 R (digits M c)).applies p → ⊥) ↔ Capped M (λ a. R) c
  unfolding digits
  cap_clear R = (
    λ f p a b. omega (arith, (small_clear R (digits M c)).0 f p a (omega (arith, length-map c M.arity)), digit_at M.arity c refl (p - 1) (omega arith)),
    λ g. (small_clear R (digits M c)).1 (λ p a b. let l : p ≤ length c = omega (arith, length-map c M.arity) in omega (arith, g p a l, digit_at M.arity c refl (p - 1) (omega arith))),
  )

  -- row 20 bounds it by its label
  label_clear : (most : M.Label → ℕ) → ((p : ℕ) → (row20 M most c).applies p → ⊥) ↔ Capped M most c
  label_clear most = (
    λ f p a b. let n : cap (most (M.atom (digit c p))) p < M.arity (digit c p) → ⊥ = λ l. f p (a, b, l) in omega arith,
    λ g p (a, b, l). let z : ⊥ = omega (arith, g p a b) in z,
  )

  module _ (x : IsRootedₗ M c) where
    code_sizeₗ : length c ≡ x.number
    code_sizeₗ = ap length x.is ∙ General.code_length M x.number x.edges x.root x.label x.tree x.inside.0 x.inside.1

    -- the bound on the marks is the bound on the neighbours
    bounded : (most : M.Label → ℕ) → ((a : M.Label) → 1 ≤ most a) → Valences M most x.label x.number x.edges ↔ Capped M most c
    bounded most one = iff_trans
        (rw (← x.is) at (General.degrees M x.number x.edges x.root x.label x.tree x.inside.0 x.inside.1 most))
        (by_places c (omega (arith, code_sizeₗ, x.inside)))
      where
        by_places : (c : List ℕ) → 1 ≤ length c → Fits M most c ↔ Capped M most c
        by_places [] h = absurd (let z : ⊥ = omega arith in z)
        by_places (m ∷ ms) h = fits_capped M most m ms (λ g d k. one (M.atom d))

  -- marks are not refused exactly when they are the rooted code of a skeleton in which no vertex has more neighbours than its label allows
  pub marks_accepted : (code_length R : ℕ) (most : M.Label → ℕ) → 1 ≤ R → ((a : M.Label) → 1 ≤ most a) → Clear (row3 code_length (length c) ∷ mark_rows M R most c)
      ↔ ((x : IsRootedₗ M c) × IsSkeleton code_length R x.number x.edges × Valences M most x.label x.number x.edges)
  unfolding Degrees Valences
  marks_accepted code_length R most r one = (
    λ y.
        let x : IsRootedₗ M c = marks_pass.0 (others (others (others y))) in (
          x,
          record { tree = x.tree; few = omega (arith, code_sizeₗ x, at_most y); degrees = (bounded x (λ a. R) (λ a. r)).1 ((cap_clear R).0 (never (others y))) },
          (bounded x most one).1 ((label_clear most).0 (never (others (others y)))),
        ),
    λ (x, s, v).
        clear_both {xs = row3 code_length (length c) ∷ []} (size_clear (omega (arith, code_sizeₗ x, x.inside)) (omega (arith, code_sizeₗ x, s.few)))
        (clear_both {xs = row10 R (digits M c) ∷ []} (clear_one ((cap_clear R).1 ((bounded x (λ a. R) (λ a. r)).0 s.degrees)))
        (clear_both {xs = row20 M most c ∷ []} (clear_one ((label_clear most).1 ((bounded x most one).0 v))) (marks_pass.1 x))),
  )

  -- a right code of marks is what the rows let pass, where no label allows more than R
  pub right_marks : (code_length R : ℕ) (most : M.Label → ℕ) → ((a : M.Label) → most a ≤ R) → Rightₗ M.arity (λ m. most (M.atom m)) code_length c ↔ Clear (row3 code_length (length c) ∷ mark_rows M R most c)
  unfolding digits
  right_marks code_length R most low = (
    λ r.
        clear_both {xs = row3 code_length (length c) ∷ []} (size_clear r.some r.few)
        (clear_both {xs = row10 R (digits M c) ∷ []} (clear_one ((cap_clear R).1 (λ p a b. omega (arith, r.small p a b, cap-low (low (M.atom (digit c p))) p))))
        (clear_both {xs = row20 M most c ∷ []} (clear_one ((label_clear most).1 r.small)) (marks_pass.1 ((code_orderedₗ M c).1 (r.ends, r.ordered))))),
    λ y.
        let (e, o) = (code_orderedₗ M c).0 (marks_pass.0 (others (others (others y)))) in
        record { some = at_least y; few = at_most y; small = (label_clear most).0 (never (others (others y))); ends = e; ordered = o },
  )

-- no digit is refused exactly when they are a rooted code and respect the caps
pub digits_pass : (R : ℕ) (c : List ℕ) → Clear (digit_rows R c) ↔ (IsRooted c × ((p : ℕ) → 1 ≤ p → p ≤ length c → digit c p ≤ cap R p))
digits_pass R c =
    let pass : Clear (row11 c ∷ row12 c ∷ row13 plain c ∷ []) ↔ IsRootedₗ base c = rw digits-base at (marks_pass base c) in (
      λ x. ((is_rooted c).1 (pass.0 (others x)), (small_clear R c).0 (never x)),
      λ (x, g). clear_both {xs = row10 R c ∷ []} (clear_one ((small_clear R c).1 g)) (pass.1 ((is_rooted c).0 x)),
    )

module _ (c : List ℕ) (x : IsRooted c) where
  code-size : length c ≡ x.number
  code-size = ap length x.is ∙ code_length x.number x.edges x.root x.tree x.inside.0 x.inside.1

  code-degrees : (R : ℕ) → Degrees R x.number x.edges ↔ ((p : ℕ) → 1 ≤ p → p ≤ length c → digit c p ≤ cap R p)
  code-degrees = rw x.is (degrees x.number x.edges x.root x.tree x.inside.0 x.inside.1)

-- a digit code lent by itself is not refused exactly when it is the rooted code of a skeleton
pub code_passes : (most R : ℕ) (c : List ℕ) → Clear (code_rows most R c) ↔ ((x : IsRooted c) × IsSkeleton most R x.number x.edges)
code_passes most R c = (
  λ y.
      let (x, g) = (digits_pass R c).0 (others y) in
      (x, record { tree = x.tree; few = omega (arith, code-size c x, at_most y); degrees = (code-degrees c x R).1 g }),
  λ (x, s).
      clear_both {xs = row3 most (length c) ∷ []}
      (size_clear (omega (arith, code-size c x, x.inside)) (omega (arith, code-size c x, s.few)))
      ((digits_pass R c).1 (x, (code-degrees c x R).0 s.degrees)),
)
