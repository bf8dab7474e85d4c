-- Read from its promise alone, every public call on CAM, 0A and A0 has one possible result and one possible state of its lent output, as in
-- `One`.
--
-- In order: a form read into edges; a form in the caller's numbering; a form by code, where what is right is one because the edges are
-- accepted. Assumes nothing.
use Rattle.std.specs.Prelude.{Result}
use Rattle.refusal.specs.declared.Refusal.{Refusal}
use Rattle.std.specs.Prelude.{◌≡◌, refl, List, ℕ}
use Rattle.std.proofs.Common.{sym, ap, ◌∙◌}
use Rattle.refusal.specs.document.Table.{Answered}
use Rattle.refusal.specs.document.Outcome.{told}
use Rattle.refusal.proofs.Apart.{told_apart, told-both}
use Rattle.refusal.proofs.Laws.{one_accepted, one_result}
use Rattle.refusal.proofs.Giving.{one-given, one_clear}
use Rattle.digit_code.specs.document.Code.{decode}
use Rattle.skeleton.specs.document.Skeleton.{IsTree}
use Rattle.form.specs.Forms.{centred-form}
use Rattle.zurkhovel.specs.document.Tabled.{Tabled}
use Rattle.zurkhovel.specs.document.Matrix.{DecodeCam, DecodeZeroA, DecodeAZero, Cam, ZeroA, AZero, NumberedByCode, ByCode, CamByCode, ZeroAByCode, AZeroByCode}
use Rattle.zurkhovel.specs.document.InEdition.{EdgeTable}

-- the edges by code are one
one-numbering : {N : ℕ} {E F G : List ℕ} → IsTree N E → NumberedByCode N E F → NumberedByCode N E G → F ≡ G
one-numbering t x y = x.edges ∙ ap decode (centred-form.one t x.right y.right) ∙ sym y.edges

pub one_by_code : {A : Type 0} {of : List ℕ → A} {N : ℕ} {E : List ℕ} → IsTree N E → (a b : A) → ByCode of N E a → ByCode of N E b → a ≡ b
one_by_code {of = of} t a b p q = p.is ∙ ap of (one-numbering t p.numbering q.numbering) ∙ sym q.is

module _ (e : ℕ) where
  -- ---- a form read into edges

  pub one-decode-cam :
      (N : ℕ) (c old new new' : List ℕ) (r s : Result ℕ Refusal) → DecodeCam e N c old new (told r) → DecodeCam e N c old new' (told s) → (r ≡ s) × (new ≡ new')
  one-decode-cam N c old new new' r s a b = told-both r s (one-given (λ E F p q. p ∙ sym q) a b)

  pub one-decode_zero_a :
      (N x : ℕ) (old new new' : List ℕ) (r s : Result ℕ Refusal) → DecodeZeroA e N x old new (told r) → DecodeZeroA e N x old new' (told s) → (r ≡ s) × (new ≡ new')
  one-decode_zero_a N x old new new' r s a b = told-both r s (one-given (λ E F p q. p ∙ sym q) a b)

  pub one-decode_a_zero :
      (N x : ℕ) (old new new' : List ℕ) (r s : Result ℕ Refusal) → DecodeAZero e N x old new (told r) → DecodeAZero e N x old new' (told s) → (r ≡ s) × (new ≡ new')
  one-decode_a_zero N x old new new' r s a b = told-both r s (one-given (λ E F p q. p ∙ sym q) a b)

module _ (T : EdgeTable) where
  -- ---- in the caller's numbering

  pub one-cam : (N : ℕ) (E old new new' : List ℕ) (r s : Result ℕ Refusal) → Cam T N E old new (told r) → Cam T N E old new' (told s) → (r ≡ s) × (new ≡ new')
  one-cam N E old new new' r s a b = told-both r s (one-given (λ c d p q. p ∙ sym q) a b)

  pub one_zero_a : (N : ℕ) (E : List ℕ) (r s : Result ℕ Refusal) → ZeroA T N E (told r) → ZeroA T N E (told s) → r ≡ s
  one_zero_a N E r s a b = told_apart r s (one_result (λ x y p q. (p ∙ sym q, refl)) a b).0

  pub one_a_zero : (N : ℕ) (E : List ℕ) (r s : Result ℕ Refusal) → AZero T N E (told r) → AZero T N E (told s) → r ≡ s
  one_a_zero N E r s a b = told_apart r s (one_result (λ x y p q. (p ∙ sym q, refl)) a b).0

module _ {T : EdgeTable} {R : ℕ} (t : Tabled T R) where
  -- ---- by code

  -- a number by code
  one_number :
      (most N : ℕ) (E : List ℕ) {of : List ℕ → ℕ} (r s : Result ℕ Refusal) → Answered (T most N E 1) (ByCode of N E) (told r)
      → Answered (T most N E 1) (ByCode of N E) (told s) → r ≡ s
  one_number most N E r s a b = told_apart r s (one_accepted (λ k x y p q. (one_by_code (t.skeleton N E 1 k).tree x y p q, refl)) a b).0

  pub one-cam_by_code :
      (N : ℕ) (E old new new' : List ℕ) (r s : Result ℕ Refusal) → CamByCode T N E old new (told r) → CamByCode T N E old new' (told s) → (r ≡ s) × (new ≡ new')
  one-cam_by_code N E old new new' r s a b = told-both r s (one_clear (λ k. one_by_code (t.skeleton N E 1 k).tree) a b)

  pub one_zero_a_by_code : (N : ℕ) (E : List ℕ) (r s : Result ℕ Refusal) → ZeroAByCode T N E (told r) → ZeroAByCode T N E (told s) → r ≡ s
  one_zero_a_by_code N E r s a b = one_number _ N E r s a b

  pub one_a_zero_by_code : (N : ℕ) (E : List ℕ) (r s : Result ℕ Refusal) → AZeroByCode T N E (told r) → AZeroByCode T N E (told s) → r ≡ s
  one_a_zero_by_code N E r s a b = one_number _ N E r s a b
