-- `letters::write_digits` meets its contract. Assumes nothing.
use Prim.Native.Nat.{ℕ, ◌/◌}
use native.Mathlib.Omega.{arith}
use Rattle.laws.specs.Laying.{mapped-none, mapped-more, mapped-all}
use Rattle.skeleton.specs.document.Label.{digits}
use Rattle.letters.proofs.write_digits.Goals as goal

abbrev third : ℕ → ℕ
third m = m / 3

pub loop-i-init : goal.loop-i-init
loop-i-init c = mapped-none _ _ _ c.requires

pub loop-i-preserved : goal.loop-i-preserved
loop-i-preserved c = mapped-more _ _ _ c.requires c.loop-i.invariant (omega arith)

pub returns : goal.returns
unfolding digits
returns c = mapped-all _ _ _ c.requires c.loop-i.invariant (omega arith)
