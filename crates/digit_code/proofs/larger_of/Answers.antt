-- `digit_code::larger_of` meets its contract: the loop keeps that the children passed fall. Assumes nothing.
use mathlib.Core.Path.{◌≡◌}
use native.Mathlib.Omega.{arith}
use lib.ListN.{get_or}
use Rattle.digit_code.specs.Two.{digit_at, arity_of}
use Rattle.laws.specs.Tells.{was_held, was_denied}
use Rattle.digit_code.proofs.Scanning.{Turn, turn, line_first, line-last, line-next, line_stops}
use Rattle.digit_code.proofs.larger_of.Goals as goal
use Rattle.digit_code.proofs.larger_of.Goals.{In-loop}

-- the digit that is read is the mark's
counts : (c : In-loop) → get_or c.args.ds.now c.args.i 0 ≡ arity_of c.args.named (get_or c.args.ms.now c.args.i 0)
counts c = digit_at (arity_of c.args.named) c.args.ms.now c.requires.ds_value c.args.i c.requires.i_in_bounds

-- a child and the one behind it
here : (c : In-loop) → Turn c.args.ms.now c.args.ends.now c.loop.a
here c = turn c.requires.known c.requires.i_in_bounds c.loop.invariant (omega (arith, counts c))

pub loop-init : goal.loop-init
loop-init c = line_first c.requires.i_in_bounds

pub bounds-ends-a : goal.bounds-ends-a
bounds-ends-a c = (here (goal.at.bounds-ends-a c).In-loop).first

pub bounds-ends-b : goal.bounds-ends-b
bounds-ends-b c = (here (goal.at.bounds-ends-b c).In-loop).second

pub slice_bounds-falls-count : goal.slice_bounds-falls-count
slice_bounds-falls-count c = (here (goal.at.slice_bounds-falls-count c).In-loop).begins

pub slice_bounds-falls-start : goal.slice_bounds-falls-start
slice_bounds-falls-start c = (here (goal.at.slice_bounds-falls-start c).In-loop).begins

pub slice_bounds-falls-end : goal.slice_bounds-falls-end
slice_bounds-falls-end c = omega (arith, here (goal.at.slice_bounds-falls-end c).In-loop)

pub slice_bounds-falls-count-in-loop : goal.slice_bounds-falls-count-in-loop
slice_bounds-falls-count-in-loop c = (here (goal.at.slice_bounds-falls-count-in-loop c).In-loop).meets

pub slice_bounds-falls-start-in-loop : goal.slice_bounds-falls-start-in-loop
slice_bounds-falls-start-in-loop c = (here (goal.at.slice_bounds-falls-start-in-loop c).In-loop).meets

pub slice_bounds-falls-end-in-loop : goal.slice_bounds-falls-end-in-loop
slice_bounds-falls-end-in-loop c = (here (goal.at.slice_bounds-falls-end-in-loop c).In-loop).within

pub returns-then-not-falls : goal.returns-then-not-falls
returns-then-not-falls c = line_stops c.requires.known c.requires.i_in_bounds c.loop.invariant (omega (arith, counts (goal.at.returns-then-not-falls c).In-loop)) (was_denied c.falls.ensures c.if-not-falls.true)

pub loop-preserved : goal.loop-preserved
loop-preserved c = line-next c.requires.known c.requires.i_in_bounds c.loop.invariant (omega (arith, counts (goal.at.loop-preserved c).In-loop)) (was_held c.falls.ensures c.if-not-falls.false)

pub returns : goal.returns
returns c = line-last c.requires.known c.requires.i_in_bounds c.loop.invariant (omega (arith, digit_at (arity_of c.args.named) c.args.ms.now c.requires.ds_value c.args.i c.requires.i_in_bounds))
