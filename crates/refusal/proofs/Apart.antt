-- The answers of the calls, told by number and values (`Outcome`), stay apart: two that are told alike are one. So what a promise says of what is told, it says of the
-- call's own result. Assumes nothing.
use Rattle.std.specs.Prelude.{◌≡◌, refl, ℕ, Result, Ok, Err}
use Rattle.std.proofs.Common.{ap, ap₂}
use Rattle.refusal.specs.document.Outcome.{told, told_of, unwritten}
use Rattle.refusal.specs.document.Reported.{answer, pairs, Reports}
use Rattle.refusal.specs.declared.Refusal.{Refusal}
use Rattle.refusal.specs.declared.ListRefusal.{ListRefusal}
use Rattle.refusal.specs.declared.Reported.{Reported}

one_refusal : (q t : Refusal) → q.row ≡ t.row → q.place ≡ t.place → q ≡ t
one_refusal q t k p = ap₂ (λ (a b : ℕ). record { row = a; place = b }) k p

pub told_apart : {A : Type 0} (r s : Result A Refusal) → told r ≡ told s → r ≡ s
told_apart (Ok a) (Ok b) e = cc
told_apart (Ok a) (Err q) e = cc
told_apart (Err q) (Ok a) e = cc
told_apart (Err q) (Err t) e =
    let number : q.row ≡ t.row = cc in
    let place : q.place ≡ t.place = cc in
    ap Err (one_refusal q t number place)

-- and so beside what was lent
pub told-both : {A B : Type 0} (r s : Result A Refusal) → (told r ≡ told s) × B → (r ≡ s) × B
told-both r s e = (told_apart r s e.0, e.1)

-- of a call with several lists
pub told_of_apart : {A : Type 0} (r s : Result A ListRefusal) → told_of r ≡ told_of s → r ≡ s
told_of_apart (Ok a) (Ok b) e = cc
told_of_apart (Ok a) (Err q) e = cc
told_of_apart (Err q) (Ok a) e = cc
told_of_apart (Err q) (Err t) e =
    let named : ◌≡◌ {A = ℕ × ℕ} (q.list, q.refusal.row) (t.list, t.refusal.row) = cc in
    let list : q.list ≡ t.list = ap (λ (x : ℕ × ℕ). x.0) named in
    let number : q.refusal.row ≡ t.refusal.row = ap (λ (x : ℕ × ℕ). x.1) named in
    let place : q.refusal.place ≡ t.refusal.place = cc in
    let one : q.refusal ≡ t.refusal = one_refusal q.refusal t.refusal number place in
    ap₂ (λ (i : ℕ) (r : Refusal). Err (record { list = i; refusal = r })) list one

-- what a call that only checks is told as
pub unwritten_apart : {E : Type 0} (r s : Result (Unit {0}) E) → unwritten r ≡ unwritten s → r ≡ s
unwritten_apart (Ok u) (Ok v) e = refl
unwritten_apart (Ok u) (Err t) e = absurd cc
unwritten_apart (Err q) (Ok v) e = absurd cc
unwritten_apart (Err q) (Err t) e = let one : q ≡ t = cc in ap Err one

-- of a call that reports
pub reported_apart : {A E : Type 0} (r s : Result (Reported A) E) → answer r ≡ answer s → pairs r ≡ pairs s → r ≡ s
reported_apart (Ok c) (Ok d) e n =
    let value : c.value ≡ d.value = cc in
    ap₂ (λ v (m : ℕ). Ok (record { value = v; pairs = m })) value n
reported_apart (Ok c) (Err t) e n = absurd cc
reported_apart (Err q) (Ok d) e n = absurd cc
reported_apart (Err q) (Err t) e n = let one : q ≡ t = cc in ap Err one

-- a refusal reports nothing, whatever was looked at before it
pub refused-reports : (A : Type 0) (Count : ℕ → Type 0) (r : Refusal) → Reports Count (told (answer {A = A} (Err r))) (pairs {A = A} (Err r))
refused-reports A Count r = refl
