-- Row 14 for the centred code by the test on the digits: what the call answers. Assumes nothing.
use Rattle.std.specs.Prelude.{Ok, Err}
use Rattle.std.specs.Prelude.{◌≡◌, refl, ◌↔◌, Bool, true, false, List, [], ◌∷◌, ℕ}
use Rattle.std.proofs.Common.{arith}
use Rattle.refusal.specs.Checks.{Check, Answers, passes, fails}
use Rattle.refusal.specs.Laws.{clear_one, clear_both, refusal_front}
use Rattle.refusal.proofs.Laws.{first-place, refusal_back}
use Rattle.digit_code.specs.document.Code.{code_rows}
use Rattle.digit_code.specs.Digits as CodeSaid
use Rattle.digit_code.specs.Ends.{Ends}
use Rattle.digit_code.specs.Ordered.{Ordered}
use Rattle.digit_code.specs.Right.{RightCode, right_clear, clear_right}
use Rattle.skeleton.specs.document.Label.{Marks, digits}
use Rattle.skeleton.specs.Base.{base}
use Rattle.form.specs.document.Form.{IsCentred, row14_form, form_rows}
use Rattle.form.specs.document.Labelled.{IsCentredₗ, Own, row14ₗ}
use Rattle.form.specs.Forms.{own_base}
use Rattle.centred_check.specs.Middle.{Middle}
use Rattle.laws.specs.Tells.{Tells, was_held, was_denied}
use Rattle.centred_check.specs.Theorems.{rooted-centredₗ}

-- by what the test told of a right code
module _ (M : Marks) {c : List ℕ} (e : Ends 1 (CodeSaid.digits M.arity c)) (o : Ordered M.arity c) where
  by_test : Middle M c ↔ Own M (IsCentredₗ M) c
  unfolding digits
  by_test = rooted-centredₗ M c e o

  pub when_so : {r : Bool} → Tells (Middle M c) r → r ≡ true → Answers (row14ₗ M (IsCentredₗ M) c ∷ []) (Ok tt)
  when_so t h = passes (clear_one {r = row14ₗ M (IsCentredₗ M) c} (λ p a. a.1 (by_test.0 (was_held t h))))

  pub when_not : {r : Bool} → Tells (Middle M c) r → r ≡ false → Answers (row14ₗ M (IsCentredₗ M) c ∷ []) (Err (record { row = 14; place = 0 }))
  when_not t h = fails (first-place {r = row14ₗ M (IsCentredₗ M) c} (refl, λ m. was_denied t h (by_test.1 m)) (λ q l a. let z : ⊥ = omega arith in z))

-- for a plain code
pub plain-answer : (c : List ℕ) {r : Check} → Answers (row14ₗ base (IsCentredₗ base) c ∷ []) r → Answers (row14_form IsCentred c ∷ []) r
plain-answer c {r} a = rw own_base at a

-- the rows in front of 14: one of them applies to what is no right code, none to a right one
module _ {most R : ℕ} {c : List ℕ} where
  pub when_wrong : {r : Check} → (RightCode most R c → ⊥) → Answers (code_rows most R c) r → Answers (form_rows IsCentred most R c) r
  when_wrong n (passes k) = absurd (n (clear_right most R c k))
  when_wrong n (fails l) = fails (refusal_front (row14_form IsCentred c ∷ []) l)

  pub when_right : {r : Check} → RightCode most R c → Answers (row14_form IsCentred c ∷ []) r → Answers (form_rows IsCentred most R c) r
  when_right k (passes d) = passes (clear_both (right_clear most R c k) d)
  when_right k (fails l) = fails (refusal_back (right_clear most R c k) l)
