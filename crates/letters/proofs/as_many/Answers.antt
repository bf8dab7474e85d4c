-- `letters::as_many` meets its contract. Assumes nothing.
use mathlib.Core.Path.{refl}
use native.Mathlib.Omega.{arith}
use Rattle.refusal.specs.Laws.{clear_one}
use Rattle.refusal.proofs.Laws.{first-place}
use Rattle.refusal.specs.Checks.{passes, fails}
use Rattle.letters.proofs.as_many.Goals as goal

pub returns-then-letters-n : goal.returns-then-letters-n
returns-then-letters-n c = fails (first-place (refl, c.if-letters-n.true) (λ q l. omega arith))

pub returns : goal.returns
returns c = passes (clear_one (λ q a. a.1 c.if-letters-n.false))
