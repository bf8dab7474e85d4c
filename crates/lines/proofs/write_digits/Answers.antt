-- `lines::write_digits` meets its contract: the loop keeps that the digits passed are written. Assumes nothing.
use Prim.Native.Nat.{◌+◌}
use native.Mathlib.Omega.{arith}
use Rattle.laws.specs.Laying.{mapped-none, mapped-more, mapped-all}
use Rattle.texts.specs.document.Numerals.{figures}
use Rattle.lines.proofs.write_digits.Goals as goal

pub loop-i-init : goal.loop-i-init
loop-i-init c = mapped-none (λ d. 48 + d) _ _ c.requires.room

pub loop-i-preserved : goal.loop-i-preserved
loop-i-preserved c = mapped-more (λ d. 48 + d) _ _ c.requires.room c.loop-i.invariant (omega arith)

pub returns : goal.returns
unfolding figures
returns c = mapped-all (λ d. 48 + d) _ _ c.requires.room c.loop-i.invariant (omega arith)
