-- `refusal::fits` meets its contract. Assumes nothing.
use Rattle.std.proofs.Common.{refl, arith}
use Rattle.refusal.specs.Checks.{passes, fails}
use Rattle.refusal.specs.Laws.{clear_one}
use Rattle.refusal.proofs.Laws.{first-place}
use Rattle.refusal.proofs.fits.Goals as goal

pub returns-then-lent-need : goal.returns-then-lent-need
returns-then-lent-need c = fails (first-place (refl, c.if-lent-need.true) (λ q l a. omega (arith, a.0)))

pub returns : goal.returns
returns c = passes (clear_one (λ p a. omega (arith, a.1)))
