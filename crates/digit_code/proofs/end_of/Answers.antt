-- `digit_code::end_of` meets its contract: the loop passes the children of the digit one by one. Assumes nothing.
use native.Mathlib.Omega.{arith}
use Rattle.digit_code.proofs.Scanning.{begin, within, pass, last}
use Rattle.digit_code.proofs.end_of.Goals as goal

pub loop-init : goal.loop-init
loop-init c = begin c.requires.i_in_bounds

pub bounds-ends-e : goal.bounds-ends-e
bounds-ends-e c = let w = within c.requires.known (omega arith) c.requires.i_in_bounds c.loop.invariant (omega arith) in
    omega (arith, c.requires.known.few, c.requires.known.long)

pub loop-preserved : goal.loop-preserved
loop-preserved c = pass c.requires.known (omega arith) c.requires.i_in_bounds c.loop.invariant (omega arith)

pub returns : goal.returns
returns c = last c.requires.i_in_bounds c.loop.invariant (omega arith) (omega arith)
