-- What the answer of a test tells: a `bool` that says whether a fact holds, how a caller learns the fact, and an answer known both ways.
-- Assumes nothing.
use Rattle.std.specs.Prelude.{◌≡◌, refl, Bool, true, false}
use Rattle.std.proofs.Common.{true≢false}
use Rattle.std.proofs.lemmas.Bool.{false≢true}

-- r says whether P holds
pub data Tells (P : Type 0) : Bool → Type 0 where
  holds : P → Tells P true
  denies : (P → ⊥) → Tells P false

-- as a caller learns it
pub was_held : {P : Type 0} {r : Bool} → Tells P r → r ≡ true → P
was_held (holds p) e = p
was_held (denies n) e = absurd (false≢true e)

pub was_denied : {P : Type 0} {r : Bool} → Tells P r → r ≡ false → P → ⊥
was_denied (holds p) e q = true≢false e
was_denied (denies n) e q = n q

-- an answer of which both are known
pub tells : {P : Type 0} (r : Bool) → (r ≡ true → P) → (r ≡ false → P → ⊥) → Tells P r
tells true p n = holds (p refl)
tells false p n = denies (n refl)
