-- `renumber::sizes` meets its contract. Assumes nothing.
use mathlib.Core.Path.{refl}
use mathlib.Core.Logic.{⊎_elim}
use native.Mathlib.Omega.{arith}
use Rattle.refusal.specs.Laws.{clear_one}
use Rattle.refusal.proofs.Laws.{first-place}
use Rattle.refusal.specs.Checks.{passes, fails}
use Rattle.renumber.proofs.sizes.Goals as goal

pub returns-then-n1-n2 : goal.returns-then-n1-n2
returns-then-n1-n2 c = fails (first-place (refl, λ h. ⊎_elim (λ n. n h.0) (λ n. n.1 h.1) c.then-n1-n2.either) (λ q l a. let n : ⊥ = omega arith in n))

pub returns : goal.returns
returns c = passes (clear_one (λ p a. a.1 (omega arith, omega arith)))
