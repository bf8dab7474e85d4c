-- `digit_code::push` meets its contract. Assumes nothing.
use native.Mathlib.Omega.{arith}
use Rattle.digit_code.specs.Stack.{push-none, push-one, push-all}
use Rattle.digit_code.proofs.push.Goals as goal

pub loop-init : goal.loop-init
loop-init c = push-none _ _ _

pub loop-preserved : goal.loop-preserved
loop-preserved c = push-one c.loop.invariant (omega (arith, c.loop.invariant.long, c.loop.invariant.count, c.requires))

pub returns : goal.returns
returns c = push-all c.loop.invariant (omega arith) (omega arith)
