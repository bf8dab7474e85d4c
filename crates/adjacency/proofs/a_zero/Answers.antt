-- `adjacency::a_zero` meets its contract. The loop's invariant: x is what the columns before i make. Assumes nothing.
use Rattle.adjacency.specs.Plain.{numbered}
use Rattle.adjacency.proofs.Summing.{rated_none, rated_next, rated_all}
use native.Mathlib.Omega.{arith}
use Rattle.adjacency.proofs.a_zero.Goals as goal

pub loop-i-init : goal.loop-i-init
loop-i-init c = rated_none _ _

pub bin-requires : goal.bin-requires
bin-requires c = (numbered c.requires, omega (arith, c.requires.few), omega (arith, c.requires.few, c.requires.tree.edges))

pub overflow_add-x : goal.overflow_add-x
overflow_add-x c = omega (arith, (rated_next c.requires c.loop-i.invariant (omega arith) c.bin.ensures).1)

pub loop-i-preserved : goal.loop-i-preserved
loop-i-preserved c = (rated_next c.requires c.loop-i.invariant (omega arith) c.bin.ensures).0

pub returns : goal.returns
returns c = rated_all c.loop-i.invariant (omega arith)
