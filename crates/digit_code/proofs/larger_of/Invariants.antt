-- `digit_code::larger_of` meets its contract: the loop keeps that the children passed fall. Assumes nothing.
use Rattle.digit_code.specs.Two.{arity_of}
use Rattle.digit_code.proofs.Scanning.{Line}
use Rattle.digit_code.proofs.larger_of.Given as goal

abbrev pub invariant-loop : goal.invariant-loop
invariant-loop l = Line (arity_of l.named) l.ms l.i l.counter l.a
