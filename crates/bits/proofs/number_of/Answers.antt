-- `bits::number_of` meets its contract. The loop's invariant: as many digits are in x as were read. Assumes nothing.
use Rattle.bits.specs.Writing.{number-none, number-room, number_more, number-done}
use Rattle.bits.proofs.number_of.Goals as goal

pub loop-k-init : goal.loop-k-init
loop-k-init c = number-none c.args.code.now

pub append-x-requires : goal.append-x-requires
append-x-requires c = rw c.from.ensures (number-room c.loop-k.invariant c.loop-k-test.true c.requires)

pub loop-k-preserved : goal.loop-k-preserved
loop-k-preserved c = number_more c.loop-k.invariant c.loop-k-test.true c.append-x.result (rw c.from.ensures at c.append-x.ensures)

pub returns : goal.returns
returns c = number-done c.loop-k.invariant c.loop-k-test.false c.requires.ends
