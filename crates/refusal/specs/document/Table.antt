-- Document 01, "Refusal numbers": "Where several apply, the lowest number wins, then its first place; a number that a later request
-- adds stands in this order where that request puts it."
--
-- A table is a list of rows in that order, and the first row that applies wins, at its first place. Where the numbers of a table rise
-- this is the lowest number that applies (`Lowest`); that they do in document 01's own tables is in the crate `zurkhovel`, `Tables`.
--
-- In order: a row of the table; the answer that a table allows; the promise of a call with a lent output.
-- What each row says stands with the input it speaks of. That a table allows one answer, and how checks are put together, is
-- in `Laws`. Assumes nothing.
use Rattle.std.specs.Prelude.{◌≡◌, ◌⊎◌, List, [], ◌∷◌, ◌++◌, map, ℕ, ◌<◌, length}
use Rattle.laws.specs.document.Laid.{laid_over}

-- a row: its number, and the places of the input at which it applies. A call with two lists has the list beside the number, so what a row
-- is called is K.
pub record RowOf (K : Type 0) : Type 1 where
  pub number : K
  pub applies : ℕ → Type 0

-- called by its number alone
abbrev pub Row : Type 1
Row = RowOf ℕ

-- the row under another name
abbrev pub renamed : {K L : Type 0} → (K → L) → RowOf K → RowOf L
renamed f r = record { number = f r.number; applies = r.applies }

-- the table of the list i, where a call has several: "A refusal says which list; the first list's comes first."
abbrev pub of_list : ℕ → List Row → List (RowOf (ℕ × ℕ))
of_list i rs = map (renamed (λ k. (i, k))) rs

-- one of the rows has the number k and applies at the place p
abbrev pub Applies : {K : Type 0} → List (RowOf K) → K → ℕ → Type 0
Applies [] k p = ⊥
Applies (r ∷ rs) k p = ((k ≡ r.number) × r.applies p) ⊎ Applies rs k p

-- no row applies
pub record Clear {K : Type 0} (rs : List (RowOf K)) : Type 0 where
  pub nowhere : (k : K) (p : ℕ) → Applies rs k p → ⊥

-- the first row that applies has the number k, and p is its first place
abbrev pub First : {K : Type 0} → List (RowOf K) → K → ℕ → Type 0
First [] k p = ⊥
First (r ∷ rs) k p =
    ((k ≡ r.number) × r.applies p × ((q : ℕ) → q < p → r.applies q → ⊥)) ⊎ (((q : ℕ) → r.applies q → ⊥) × First rs k p)

-- the table refuses with the number k at the place p
pub record FirstRefusal {K : Type 0} (rs : List (RowOf K)) (k : K) (p : ℕ) : Type 0 where
  pub is : First rs k p

-- what a call answers: the value that was asked for, or a refusal's number and place
pub data OutcomeOf (K A : Type 0) : Type 0 where
  gives : A → OutcomeOf K A
  refuses : K → ℕ → OutcomeOf K A

-- the same, with a number alone
abbrev pub Outcome : Type 0 → Type 0
Outcome A = OutcomeOf ℕ A

-- What a table allows. `right a new`: a is the value asked for, and what was lent holds new. A refusal leaves it as it was, old.
pub data Promise {K A S : Type 0} (rs : List (RowOf K)) (right : A → S → Type 0) (old new : S) : OutcomeOf K A → Type 0 where
  kept : {a : A} → Clear rs → right a new → Promise rs right old new (gives a)
  left : {k : K} {p : ℕ} → FirstRefusal rs k p → new ≡ old → Promise rs right old new (refuses k p)

-- the same where nothing is lent
abbrev pub Answered : {K A : Type 0} → List (RowOf K) → (A → Type 0) → OutcomeOf K A → Type 0
Answered rs right o = Promise {S = Unit {0}} rs (λ a s. right a) tt tt o

-- the result c is right, n is its length, and it is written from the start of what was lent
pub record Writes (Right : List ℕ → Type 0) (old : List ℕ) (n : ℕ) (new : List ℕ) : Type 0 where
  pub result : List ℕ
  pub right : Right result
  pub count : n ≡ length result
  pub lies : new ≡ laid_over result old

-- the number v is outside 1 to most
abbrev pub Outside : ℕ → ℕ → Type 0
Outside most v = (v ≡ 0) ⊎ (most < v)

-- 3: a number, N or a length, is 0 or above `most`
abbrev pub row3 : ℕ → ℕ → Row
row3 most n = record { number = 3; applies = λ p. (p ≡ 0) × Outside most n }

-- 15: the lent output, of the length `lent`, is too short; the place is the length needed
abbrev pub row15 : ℕ → ℕ → Row
row15 need lent = record { number = 15; applies = λ p. (p ≡ need) × (lent < need) }

-- 15 of a call that writes: a right result is longer than what was lent; the place is its length
abbrev pub short : (List ℕ → Type 0) → ℕ → Row
short Right lent = record { number = 15; applies = λ p. (c : List ℕ) × Right c × (row15 (length c) lent).applies p }

-- the promise of a call that writes a right result into what was lent, where no row of rs applies and it has room
pub record Gives (rs : List Row) (Right : List ℕ → Type 0) (old new : List ℕ) (o : Outcome ℕ) : Type 0 where
  pub promise : Promise (rs ++ (short Right (length old) ∷ [])) (Writes Right old) old new o
