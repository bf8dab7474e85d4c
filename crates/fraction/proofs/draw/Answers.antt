-- `fraction::draw` meets its contract. The loop's invariant: so many bits of x are drawn into w, and t is what is left. Assumes nothing.
use mathlib.Core.Path.{sym, subst}
use native.Mathlib.Omega.{arith}
use lib.Dec.{T}
use lib.Ieee.{binary64, fits}
use Rattle.fraction.specs.Drawing.{draw-none, draw-small, draw-more, draw-done}
use Rattle.fraction.proofs.draw.Goals as goal

pub loop-init : goal.loop-init
loop-init c = let held : T (fits binary64 c.args.x) = subst T (sym c.well_formed.0.1) tt in
    draw-none c.args.x held c.requires

pub overflow_mul-w : goal.overflow_mul-w
overflow_mul-w c = omega (arith, draw-small c.loop.invariant)

pub overflow_add-w : goal.overflow_add-w
overflow_add-w c = omega (arith, draw-small c.loop.invariant, c.next-d.ensures.a_bit)

pub loop-preserved : goal.loop-preserved
loop-preserved c = let d = c.next-d in draw-more c.loop.invariant d.result.bit d.result.rest c.loop-test.true d.ensures

pub returns : goal.returns
returns c = draw-done c.loop.invariant c.loop-test.false
