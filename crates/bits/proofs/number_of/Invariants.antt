-- `bits::number_of` meets its contract. The loop's invariant: as many digits are in x as were read. Assumes nothing.
use Rattle.bits.specs.Writing.{Numbering}
use Rattle.bits.proofs.number_of.Given as goal

abbrev pub invariant-loop-k : goal.invariant-loop-k
invariant-loop-k l = Numbering l.code l.k-index l.x
