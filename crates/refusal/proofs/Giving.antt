-- Laws of the calls that write into a lent output, once for every call. Here stands what rests on `First`; the rest is in `specs.Giving`. Assumes nothing.
use Rattle.std.specs.Prelude.{◌≡◌, refl, List, [], ◌∷◌, ℕ, ◌≤◌, ◌<◌, length, Result, Err, IsErrAnd}
use Rattle.std.proofs.Common.{sym, ap, ◌∙◌, arith}
use Rattle.refusal.specs.document.Table.{Row, row15, Clear, OutcomeOf, Outcome, gives, refuses, Answered, kept, left, short, Gives}
use Rattle.refusal.specs.Laws.{clear_left}
use Rattle.refusal.proofs.Laws.{one_accepted, one_result, first-place, refusal_back, is_refusal, short_of}
use Rattle.refusal.specs.document.Given.{Given}
use Rattle.refusal.specs.Giving.{one_written, given}
use Rattle.refusal.specs.declared.Refusal.{Refusal}
use Rattle.refusal.specs.declared.ListRefusal.{ListRefusal}
use Rattle.refusal.specs.declared.Reported.{Reported}
use Rattle.refusal.specs.document.Outcome.{told, told_of}
use Rattle.refusal.specs.document.Reported.{answer, pairs, Reporting}
use Rattle.refusal.specs.Checks.{Answers}

-- one answer and one output, where a right result of an input that no row refuses is one
pub one_clear :
    {rs : List Row} {Right : List ℕ → Type 0} {old s t : List ℕ} {o u : Outcome ℕ} → (Clear rs → (c d : List ℕ) → Right c → Right d → c ≡ d)
    → Gives rs Right old s o → Gives rs Right old t u → (o ≡ u) × (s ≡ t)
one_clear {rs} {Right} {old} one g h =
    one_accepted (λ c. one_written (one (clear_left rs (short Right (length old) ∷ []) c))) g.promise h.promise

-- where it is one of any input
pub one-given :
    {rs : List Row} {Right : List ℕ → Type 0} {old s t : List ℕ} {o u : Outcome ℕ} → ((c d : List ℕ) → Right c → Right d → c ≡ d)
    → Gives rs Right old s o → Gives rs Right old t u → (o ≡ u) × (s ≡ t)
one-given one g h = one_clear (λ c. one) g h

module _ {rs : List Row} {Right : List ℕ → Type 0} {old : List ℕ} where
  module _ (clear : Clear rs) {n : ℕ} (sized : (c : List ℕ) → Right c → length c ≡ n) where
    -- a right result that does not fit
    pub refused-short : {new c : List ℕ} → Right c → length old < n → new ≡ old → Gives rs Right old new (refuses 15 n)
    refused-short {c = c} r h e =
        record { promise = left (refusal_back clear (first-place {r = short Right (length old)} here before)) e }
      where
        here : (short Right (length old)).applies n
        here = let l = sized c r in (c, r, (sym l, omega arith))

        before : (q : ℕ) → q < n → (short Right (length old)).applies q → ⊥
        before q l a = let z : ⊥ = omega (arith, a.2.0, sized a.0 a.1) in z

-- where no row refuses, c alone is right and there is room, c must be given
module _ {rs : List Row} (k : Clear rs) where
  pub must_give :
      {Right : List ℕ → Type 0} {old new : List ℕ} {o : Outcome ℕ} (c : List ℕ) → Right c → ((d : List ℕ) → Right d → d ≡ c) → length c ≤ length old
      → Gives rs Right old new o → Given c old new o
  must_give c r one h g =
      one-given (λ d e x y. one d x ∙ sym (one e y)) g
      (given k (λ d x. ap length (one d x)) h (record { result = c; right = r; count = refl; lies = refl }))

  pub must_answer : {A : Type 0} {Right : A → Type 0} {o : Outcome A} (a : A) → Right a → ((b : A) → Right b → b ≡ a) → Answered rs Right o → o ≡ gives a
  must_answer a r one g = (one_result (λ x y p q. (one x p ∙ sym (one y q), refl)) g (kept k r)).0

-- ---- a call that reports, where `?` hands a refusal on

module _ {A : Type 0} {Count : ℕ → Type 0} where
  pub reported_exit :
      {P : Outcome A → Type 0} (r : Refusal) (a : Result (Reported A) Refusal) → IsErrAnd a (λ d. d ≡ r) → P (refuses r.row r.place)
      → Reporting P Count (told (answer a)) (pairs a)
  reported_exit r a h x = rw (is_refusal a h) (record { promised = x; reported = refl })

  -- 15
  pub reported_short :
      {P : Outcome A → Type 0} {need lent : ℕ} {r : Refusal} (a : Result (Reported A) Refusal) → IsErrAnd a (λ d. d ≡ r) → Answers (row15 need lent ∷ []) (Err r)
      → (lent < need → P (refuses 15 need)) → Reporting P Count (told (answer a)) (pairs a)
  reported_short a h k f = let (e, l) = short_of a h k in rw e (record { promised = f l; reported = refl })

  -- of one of several lists
  pub list_exit :
      {P : OutcomeOf (ℕ × ℕ) A → Type 0} (r : ListRefusal) (a : Result (Reported A) ListRefusal) → IsErrAnd a (λ d. d ≡ r)
      → P (refuses (r.list, r.refusal.row) r.refusal.place) → Reporting P Count (told_of (answer a)) (pairs a)
  list_exit r a h x = rw (is_refusal a h) (record { promised = x; reported = refl })
