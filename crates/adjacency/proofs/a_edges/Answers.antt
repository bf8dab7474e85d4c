-- `adjacency::a_edges` meets its contract. The loop's invariant: the columns before i are written, and s bits hold those from i on. Assumes nothing.
use Rattle.adjacency.proofs.Filling.{taking_none, taking_shift, taking_room, taking_count, taking_more, taking_all}
use native.Mathlib.Omega.{arith}
use Rattle.adjacency.proofs.a_edges.Goals as goal

pub loop-i-init : goal.loop-i-init
loop-i-init c = taking_none _ _ _ c.requires.0 c.requires.1

pub overflow_sub-s-in-loop-i : goal.overflow_sub-s-in-loop-i
overflow_sub-s-in-loop-i c = taking_shift c.loop-i.invariant (omega arith) c.requires.1

pub column-k-requires : goal.column-k-requires
column-k-requires c = (omega (arith, c.requires.1), taking_room c.loop-i.invariant (omega arith) c.requires.1 c.requires.2)

pub overflow_add-k : goal.overflow_add-k
overflow_add-k c = omega (arith, taking_count c.loop-i.invariant (omega arith) c.requires.1 c.requires.2 c.column-k.ensures, c.well_formed)

pub loop-i-preserved : goal.loop-i-preserved
loop-i-preserved c = taking_more c.loop-i.invariant (omega arith) c.requires.1 c.requires.2 c.column-k.ensures

pub returns : goal.returns
returns c = taking_all c.loop-i.invariant (omega arith)
