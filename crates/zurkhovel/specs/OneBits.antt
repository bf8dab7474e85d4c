-- Read from its promise alone, every public call on the bit-tuple has one possible result and one possible state of its lent output, as in
-- `One`. Assumes nothing.
use Rattle.std.specs.Prelude.{Result}
use Rattle.refusal.specs.declared.Refusal.{Refusal}
use Rattle.std.specs.Prelude.{◌≡◌, refl, Bool, List, ℕ, Float}
use Rattle.std.proofs.Common.{sym, ap, ◌∙◌}
use Rattle.refusal.specs.document.Table.{Row, Outcome, Answered}
use Rattle.refusal.specs.document.Outcome.{told}
use Rattle.refusal.proofs.Apart.{told_apart, told-both}
use Rattle.refusal.proofs.Laws.{one_result}
use Rattle.refusal.proofs.Giving.{one-given}
use Rattle.digit_code.specs.document.Code.{decode}
use Rattle.bits.specs.Reading.{one_reading}
use Rattle.bits.specs.Written.{packed_again, number_again}
use Rattle.fraction.specs.Back.{fraction_again}
use Rattle.zurkhovel.specs.document.Bits.{Pack, Whole, InFraction, Decodes, Unpack, Unwhole, Unfraction}
use Rattle.zurkhovel.specs.document.InEdition.{EdgeTable}

-- a call that gives a value, where the right one is one: what is told is one
pub one_value :
    {A : Type 0} {rs : List Row} {Right : A → Type 0} {o q : Outcome A} → ((a b : A) → Right a → Right b → a ≡ b) → Answered rs Right o → Answered rs Right q
    → o ≡ q
one_value one a b = (one_result (λ x y p q. (one x y p q, refl)) a b).0

-- bits carry one code, and so have one list of edges
pub one-decoded : {R : ℕ} {May : List Bool → Type 0} {bs : List Bool} (E F : List ℕ) → Decodes R May bs E → Decodes R May bs F → E ≡ F
one-decoded E F d e = d.edges ∙ ap decode (one_reading d.reads e.reads) ∙ sym e.edges

-- ---- the calls, over the table of the edge list, or in the edition e

module _ (T : EdgeTable) where
  pub one-pack :
      (N : ℕ) (E : List ℕ) (root : ℕ) (old new new' : List ℕ) (r s : Result ℕ Refusal) → Pack T N E root old new (told r) → Pack T N E root old new' (told s)
      → (r ≡ s) × (new ≡ new')
  one-pack N E root old new new' r s a b = told-both r s (one-given (λ c d p q. packed_again p q) a b)

  pub one-whole : (N : ℕ) (E : List ℕ) (root : ℕ) (r s : Result ℕ Refusal) → Whole T N E root (told r) → Whole T N E root (told s) → r ≡ s
  one-whole N E root r s a b = told_apart r s (one_value (λ x y p q. number_again p q) a b)

  pub one-fraction :
      (N : ℕ) (E : List ℕ) (root : ℕ) (r s : Result Float Refusal) → InFraction T N E root (told r) → InFraction T N E root (told s) → r ≡ s
  one-fraction N E root r s a b = told_apart r s (one_value (λ x y p q. fraction_again p q) a b)

module _ (e : ℕ) where
  pub one-unpack : (b old new new' : List ℕ) (r s : Result ℕ Refusal) → Unpack e b old new (told r) → Unpack e b old new' (told s) → (r ≡ s) × (new ≡ new')
  one-unpack b old new new' r s g h = told-both r s (one-given one-decoded g h)

  pub one-unwhole : (N x : ℕ) (old new new' : List ℕ) (r s : Result ℕ Refusal) → Unwhole e N x old new (told r) → Unwhole e N x old new' (told s) → (r ≡ s) × (new ≡ new')
  one-unwhole N x old new new' r s a b = told-both r s (one-given one-decoded a b)

  pub one-unfraction :
      (x : Float) (old new new' : List ℕ) (r s : Result ℕ Refusal) → Unfraction e x old new (told r) → Unfraction e x old new' (told s) → (r ≡ s) × (new ≡ new')
  one-unfraction x old new new' r s a b = told-both r s (one-given one-decoded a b)
