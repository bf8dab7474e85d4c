-- Read from its promise alone, every public call has one possible result and one possible state of its lent output. r, s: the call's own
-- results; new, new': the output after it. Each is a case of one law, `one_result`, by way of `one-given` where the call writes; the law is
-- about what is told of a result, which tells two different ones apart (`Apart` of the crate `refusal`). Of a call that also reports how many pairs it
-- looked at, r and s are its answers; with the number it is said in `OneReported`. Assumes nothing.
use Rattle.refusal.specs.declared.ListRefusal.{ListRefusal}
use Rattle.refusal.specs.document.Outcome.{told_of}
use Rattle.std.specs.Prelude.{Result}
use Rattle.refusal.specs.declared.Refusal.{Refusal}
use Rattle.std.specs.Prelude.{◌≡◌, refl, Bool, true, false, List, ℕ}
use Rattle.std.proofs.Common.{sym, ◌∙◌}
use Rattle.refusal.specs.document.Table.{Row, Answered}
use Rattle.refusal.specs.document.Outcome.{told, unwritten}
use Rattle.refusal.proofs.Apart.{told_apart, told-both, told_of_apart, unwritten_apart}
use Rattle.refusal.proofs.Laws.{one_result}
use Rattle.refusal.proofs.Giving.{one-given, one_clear}
use Rattle.form.specs.document.Form.{IsNTuple, IsCentred}
use Rattle.form.specs.Forms.{IsForm, n_tuple-form, centred-form}
use Rattle.zurkhovel.specs.document.Codes.{CheckCode, DecodeCode, DecodeForm, CheckEdges, RootedCode, FormCode}
use Rattle.zurkhovel.specs.document.Same.{OneCode, SameSkeleton}
use Rattle.zurkhovel.specs.Accepted.{tree_of}

-- two results that are the same thing are one
pub equal : (x c d : List ℕ) → c ≡ x → d ≡ x → c ≡ d
equal x c d p q = p ∙ sym q

-- what a call that only checks is told as
pub one-check : {rs : List Row} (r s : Result ℕ Refusal) → Answered rs (λ n. n ≡ 0) (told r) → Answered rs (λ n. n ≡ 0) (told s) → r ≡ s
one-check r s a b = told_apart r s (one_result (λ n m p q. (p ∙ sym q, refl)) a b).0

-- a call that only checks
pub one-passed :
    {rs : List Row} (r s : Result (Unit {0}) Refusal) → Answered rs (λ n. n ≡ 0) (told (unwritten r)) → Answered rs (λ n. n ≡ 0) (told (unwritten s)) → r ≡ s
one-passed r s a b = unwritten_apart r s (one-check (unwritten r) (unwritten s) a b)

-- codes are equal or not
pub one_found : (C D : List ℕ → Type 0) (a b : Bool) → OneCode C D a → OneCode C D b → a ≡ b
one_found C D true true x y = refl
one_found C D true false x y = absurd (y x.0 x.1 x.2)
one_found C D false true x y = absurd (x y.0 y.1 y.2)
one_found C D false false x y = refl

-- ---- the calls, in the edition e

module _ (e : ℕ) where
  pub one-check-code : (c : List ℕ) (r s : Result (Unit {0}) Refusal) → CheckCode e c (told (unwritten r)) → CheckCode e c (told (unwritten s)) → r ≡ s
  one-check-code c = one-passed

  pub one-decode-code :
      (c old new new' : List ℕ) (r s : Result ℕ Refusal) → DecodeCode e c old new (told r) → DecodeCode e c old new' (told s) → (r ≡ s) × (new ≡ new')
  one-decode-code c old new new' r s a b = told-both r s (one-given (equal _) a b)

  pub one-check-edges :
      (N : ℕ) (E : List ℕ) (root : ℕ) (r s : Result (Unit {0}) Refusal) → CheckEdges e N E root (told (unwritten r)) → CheckEdges e N E root (told (unwritten s)) → r ≡ s
  one-check-edges N E root = one-passed

  pub one-rooted-code :
      (N : ℕ) (E : List ℕ) (root : ℕ) (old new new' : List ℕ) (r s : Result ℕ Refusal) → RootedCode e N E root old new (told r) → RootedCode e N E root old new' (told s)
      → (r ≡ s) × (new ≡ new')
  one-rooted-code N E root old new new' r s a b = told-both r s (one-given (equal _) a b)

  -- of either form
  one-form-code :
      (form : ℕ → List ℕ → List ℕ → Type 0) (f : IsForm form) (N : ℕ) (E old new new' : List ℕ) (r s : Result ℕ Refusal)
      → FormCode e form N E old new (told r) → FormCode e form N E old new' (told s) → (r ≡ s) × (new ≡ new')
  one-form-code form f N E old new new' r s a b = told-both r s (one_clear (λ k c d x y. f.one (tree_of N E 1 k) x y) a b)

  one-decode-form :
      (form : ℕ → List ℕ → List ℕ → Type 0) (c old new new' : List ℕ) (r s : Result ℕ Refusal)
      → DecodeForm e form c old new (told r) → DecodeForm e form c old new' (told s) → (r ≡ s) × (new ≡ new')
  one-decode-form form c old new new' r s a b = told-both r s (one-given (equal _) a b)

  pub one-n_tuple-code :
      (N : ℕ) (E old new new' : List ℕ) (r s : Result ℕ Refusal) → FormCode e IsNTuple N E old new (told r) → FormCode e IsNTuple N E old new' (told s)
      → (r ≡ s) × (new ≡ new')
  one-n_tuple-code = one-form-code IsNTuple n_tuple-form

  pub one-centred-code :
      (N : ℕ) (E old new new' : List ℕ) (r s : Result ℕ Refusal) → FormCode e IsCentred N E old new (told r) → FormCode e IsCentred N E old new' (told s)
      → (r ≡ s) × (new ≡ new')
  one-centred-code = one-form-code IsCentred centred-form

  pub one-decode-n_tuple :
      (c old new new' : List ℕ) (r s : Result ℕ Refusal) → DecodeForm e IsNTuple c old new (told r) → DecodeForm e IsNTuple c old new' (told s)
      → (r ≡ s) × (new ≡ new')
  one-decode-n_tuple = one-decode-form IsNTuple

  pub one-decode-centred :
      (c old new new' : List ℕ) (r s : Result ℕ Refusal) → DecodeForm e IsCentred c old new (told r) → DecodeForm e IsCentred c old new' (told s)
      → (r ≡ s) × (new ≡ new')
  one-decode-centred = one-decode-form IsCentred

  pub one-same-skeleton :
      (N : ℕ) (E : List ℕ) (P : ℕ) (F : List ℕ) (r s : Result Bool ListRefusal) → SameSkeleton e N E P F (told_of r) → SameSkeleton e N E P F (told_of s) → r ≡ s
  one-same-skeleton N E P F r s x y = told_of_apart r s (one_result (λ a b v w. (one_found (IsCentred N E) (IsCentred P F) a b v w, refl)) x y).0
