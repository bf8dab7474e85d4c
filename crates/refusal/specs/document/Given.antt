-- What a call that writes gave, as the next call finds it. Assumes nothing.
use Rattle.std.specs.Prelude.{◌≡◌, List, ℕ, length}
use Rattle.laws.specs.document.Laid.{laid_over}
use Rattle.refusal.specs.document.Table.{Outcome, gives}

-- c is given: its length is told, and it is written from the start of the output
abbrev pub Given : List ℕ → List ℕ → List ℕ → Outcome ℕ → Type 0
Given c old new o = (o ≡ gives (length c)) × (new ≡ laid_over c old)
