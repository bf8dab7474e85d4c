-- `bits::step` meets its contract: each way through it is a law of `Found`. Assumes nothing.
use native.Mathlib.Omega.{arith}
use native.Mathlib.Nat.{le_refl}
use Rattle.bits.specs.Found.{sofar_over, sofar_short, sofar_end, sofar_on}
use Rattle.bits.proofs.step.Goals as goal

pub returns-then-top-k : goal.returns-then-top-k
returns-then-top-k c bs l s h = sofar_over s _ _ h (omega (arith, c.top.ensures))

pub returns-then-m-b : goal.returns-then-m-b
returns-then-m-b c bs l s h = sofar_short s _ _ (le_refl _) h (omega (arith, c.top.ensures)) (omega (arith, l))

pub returns-then-e-n : goal.returns-then-e-n
returns-then-e-n c bs l s h = sofar_end s _ _ (le_refl _) h (omega (arith, c.top.ensures)) (omega (arith, l)) (omega (arith, c.requires)) (omega arith)

pub returns : goal.returns
returns c bs l s h = (omega arith, sofar_on s _ _ (le_refl _) h (omega (arith, c.top.ensures)) (omega (arith, l)) (omega (arith, c.requires)) (omega arith))
