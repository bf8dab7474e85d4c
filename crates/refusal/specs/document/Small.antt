-- What a call tells fits into bytes: so it can be told as one number, 256 times a refusal's number plus the place.
--
-- In order: a refusal's number; what a refusal of one of several lists is called; an outcome; that of a call that writes or only checks, and that of a call
-- which is asked for a value; a table that refuses so. Assumes nothing.
use Rattle.std.specs.Prelude.{◌≡◌, ◌⊎◌, List, ℕ, ◌≤◌, ◌<◌}
use Rattle.refusal.specs.document.Table.{RowOf, Row, FirstRefusal, OutcomeOf, Outcome, gives, refuses}

-- how many values a byte has
abbrev pub byte_values : ℕ
byte_values = 256

-- a refusal's number is 1 to 255
abbrev pub SmallNumber : ℕ → Type 0
SmallNumber k = (1 ≤ k) × (k < byte_values)

-- What is told of a refusal fits into bytes: one of `most` that are called from 1 on, and a number of 1 to 255 that is not 22; or 22, which is called
-- 0.
abbrev pub SmallOf : ℕ → ℕ × ℕ → Type 0
SmallOf most (i, k) = ((i ≡ 0) × (k ≡ 22)) ⊎ (((1 ≤ i) × (i ≤ most)) × SmallNumber k × (k ≡ 22 → ⊥))

-- Value holds of the value that is given; Number holds of a refusal's number, and its place is below 256
abbrev pub Small : {K A : Type 0} → (K → Type 0) → (A → Type 0) → OutcomeOf K A → Type 0
Small Number Value (gives a) = Value a
Small Number Value (refuses k p) = Number k × (p < byte_values)

-- fewer than 256 bytes are written, or the refusal is small
abbrev pub SmallAnswer : Outcome ℕ → Type 0
SmallAnswer o = Small SmallNumber (λ n. n < byte_values) o

-- any value is given, or the refusal is small
abbrev pub SmallRefusal : {A : Type 0} → Outcome A → Type 0
SmallRefusal o = Small SmallNumber (λ a. Unit {0}) o

-- a table in which, whatever refuses, Number holds of its number, and its place is below 256
pub record BoundedBy {K : Type 0} (Number : K → Type 0) (rs : List (RowOf K)) : Type 0 where
  pub refusal : (k : K) (p : ℕ) → FirstRefusal rs k p → Number k × (p < byte_values)

-- the same where it is called by a number alone
abbrev pub Bounded : List Row → Type 0
Bounded rs = BoundedBy SmallNumber rs
