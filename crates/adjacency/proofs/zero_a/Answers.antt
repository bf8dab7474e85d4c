-- `adjacency::zero_a` meets its contract. The loop's invariant: x is what the entries up to i make. Assumes nothing.
use Rattle.adjacency.specs.Made.{entry_at}
use Rattle.adjacency.proofs.Mixing.{ranked-none, ranked-more, ranked_fits, ranked-all}
use native.Mathlib.Omega.{arith}
use Rattle.adjacency.proofs.zero_a.Goals as goal

pub loop-i-init : goal.loop-i-init
loop-i-init c = ranked-none _

pub overflow_mul-x : goal.overflow_mul-x
overflow_mul-x c = omega (arith, ranked_fits c.requires.0 c.requires.1 (ranked-more c.loop-i.invariant (omega arith)) (omega arith))

pub overflow_sub-x : goal.overflow_sub-x
overflow_sub-x c = (entry_at c.requires.0 c.loop-i.i (omega arith)).0

pub overflow_add-x-in-loop-i : goal.overflow_add-x-in-loop-i
overflow_add-x-in-loop-i c = omega (arith, ranked_fits c.requires.0 c.requires.1 (ranked-more c.loop-i.invariant (omega arith)) (omega arith))

pub loop-i-preserved : goal.loop-i-preserved
loop-i-preserved c = ranked-more c.loop-i.invariant (omega arith)

pub returns : goal.returns
returns c = ranked-all c.loop-i.invariant (omega arith)
