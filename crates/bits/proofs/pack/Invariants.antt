-- `bits::pack` meets its contract. The loop's invariant is `Packing`. Assumes nothing.
use Rattle.bits.specs.Packing.{Packing}
use Rattle.bits.proofs.pack.Given as goal

abbrev pub invariant-loop-digit : goal.invariant-loop-digit
invariant-loop-digit l = Packing l.code l.initial.out l.out l.digit-index l.m l.c l.a
