-- `bits::fraction` meets its contract: a rest is one bit more. Assumes nothing.
use Rattle.bits.specs.document.Bits.{fraction_bits}
use Rattle.bits.specs.Follow.{fraction-rest}
use Rattle.bits.proofs.fraction.Goals as goal

pub returns-then-rest : goal.returns-then-rest
returns-then-rest c = rw (c.if-rest.true, fraction-rest) c.zeros_behind.ensures

pub returns : goal.returns
unfolding fraction_bits
returns c = rw c.if-rest.false c.zeros_behind-2.ensures
