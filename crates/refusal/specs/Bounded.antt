-- Tables whose refusals are small: a number of 1 to 255, and a place below 256.
--
-- In order: what such a table is; how it is put together of rows and of other tables; what a call with such a table tells. What rests on `First` is in `proofs.Bounded`.
-- Assumes nothing.
use Rattle.std.specs.Prelude.{◌≡◌, Bool, true, List, [], ◌∷◌, ℕ, ◌<◌, ltb}
use Rattle.std.proofs.Common.{inl, inr, arith, ltb-true}
use Rattle.refusal.specs.document.Table.{RowOf, Row, Clear, First, OutcomeOf, Outcome, Promise, kept, left, Answered}
use Rattle.refusal.specs.document.Lowest.{both}
use Rattle.refusal.specs.document.Small.{byte_values, SmallNumber, Small, SmallAnswer, SmallRefusal, BoundedBy, Bounded}
use Rattle.refusal.specs.Lowest.{both_left, both_right}

-- ---- put together

-- each row's number is 1 to 255
abbrev pub numbers_small : List Row → Bool
numbers_small [] = true
numbers_small (r ∷ rs) = both (both (ltb 0 r.number) (ltb r.number byte_values)) (numbers_small rs)

-- each row applies below 256 alone
abbrev pub PlacesSmall : List Row → Type 0
PlacesSmall [] = Unit {0}
PlacesSmall (r ∷ rs) = ((p : ℕ) → r.applies p → p < byte_values) × PlacesSmall rs

first_small : (rs : List Row) (k p : ℕ) → numbers_small rs ≡ true → PlacesSmall rs → First rs k p → SmallNumber k × (p < byte_values)
first_small (r ∷ rs) k p t (b, d) (inl (e, a, f)) =
    let n = both_left _ (numbers_small rs) t in
    let l = ltb-true 0 r.number (both_left _ (ltb r.number byte_values) n) in
    let m = ltb-true r.number byte_values (both_right (ltb 0 r.number) _ n) in
    ((omega arith, omega arith), b p a)
first_small (r ∷ rs) k p t (b, d) (inr (n, f)) = first_small rs k p (both_right (both (ltb 0 r.number) (ltb r.number byte_values)) _ t) d f
-- a table by its rows
first_small [] k p t _ x4 = elim x4 [ ]

pub bounded_rows : {rs : List Row} → numbers_small rs ≡ true → PlacesSmall rs → Bounded rs
bounded_rows {rs} t b = record { refusal = λ k p l. first_small rs k p t b l.is }

-- a row that applies at 0 alone
pub at_0 : {A : Type 0} (p : ℕ) → (p ≡ 0) × A → p < byte_values
at_0 p (e, a) = omega arith

-- ---- what is told

-- of any call
pub small :
    {K A S : Type 0} {Number : K → Type 0} {Value : A → Type 0} {rs : List (RowOf K)} {right : A → S → Type 0} {old new : S} {o : OutcomeOf K A}
    → BoundedBy Number rs → (Clear rs → (a : A) → right a new → Value a) → Promise rs right old new o → Small Number Value o
small b v (kept {a} c r) = v c a r
small b v (left {k} {p} l e) = b.refusal k p l

-- a call that is asked for a value
pub small-value : {A : Type 0} {rs : List Row} {Right : A → Type 0} {o : Outcome A} → Bounded rs → Answered rs Right o → SmallRefusal o
small-value b g = small b (λ c a r. tt) g

-- a call that only checks
pub small-check : {rs : List Row} {o : Outcome ℕ} → Bounded rs → Answered rs (λ n. n ≡ 0) o → SmallAnswer o
small-check b g = small b (λ c n e. omega arith) g
