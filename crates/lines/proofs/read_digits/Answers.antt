-- `lines::read_digits` meets its contract: the loop keeps that the values of the bytes passed are written. Assumes nothing.
use Prim.Native.Nat.{◌-◌}
use native.Mathlib.Omega.{arith}
use Rattle.laws.specs.Laying.{mapped-none, mapped-more, mapped-all}
use Rattle.lines.specs.Form.{values}
use Rattle.lines.proofs.read_digits.Goals as goal

pub loop-i-init : goal.loop-i-init
loop-i-init c = mapped-none (λ b. b - 48) _ _ c.requires.room

pub loop-i-preserved : goal.loop-i-preserved
loop-i-preserved c = mapped-more (λ b. b - 48) _ _ c.requires.room c.loop-i.invariant (omega arith)

pub returns : goal.returns
unfolding values
returns c = mapped-all (λ b. b - 48) _ _ c.requires.room c.loop-i.invariant (omega arith)
