-- The promise of a call that writes a right result in two parts, each into an output of its own. `Right c l`: c and l are the two parts of a right result; `old` and `new` are
-- both outputs before and after. Assumes nothing.
use Rattle.std.specs.Prelude.{◌≡◌, List, [], ◌∷◌, ◌++◌, ℕ, length}
use Rattle.laws.specs.document.Laid.{laid_over}
use Rattle.refusal.specs.document.Table.{Row, Outcome, Promise, short}

-- two outputs
abbrev pub TwoOutputs : Type 0
TwoOutputs = List ℕ × List ℕ

-- the two parts are right, n is the length of the first, and each is written from the start of what was lent for it
pub record WritesBoth (Right : List ℕ → List ℕ → Type 0) (old : TwoOutputs) (n : ℕ) (new : TwoOutputs) : Type 0 where
  pub first : List ℕ
  pub second : List ℕ
  pub right : Right first second
  pub count : n ≡ length first
  pub first_lies : new.0 ≡ laid_over first old.0
  pub second_lies : new.1 ≡ laid_over second old.1

-- 15 of such a call: the first output is too short; the place is the length of its part
abbrev pub short_first : (List ℕ → List ℕ → Type 0) → TwoOutputs → Row
short_first Right old = short (λ c. (l : List ℕ) × Right c l) (length old.0)

-- the same of the second
abbrev pub short_second : (List ℕ → List ℕ → Type 0) → TwoOutputs → Row
short_second Right old = short (λ l. (c : List ℕ) × Right c l) (length old.1)

-- the first output that is too short is told
abbrev pub short_both : (List ℕ → List ℕ → Type 0) → TwoOutputs → List Row
short_both Right old = short_first Right old ∷ short_second Right old ∷ []

-- the promise of a call that writes a right result in two parts, where no row of rs applies and both have room
pub record GivesBoth (rs : List Row) (Right : List ℕ → List ℕ → Type 0) (old new : TwoOutputs) (o : Outcome ℕ) : Type 0 where
  pub promise : Promise (rs ++ short_both Right old) (WritesBoth Right old) old new o
