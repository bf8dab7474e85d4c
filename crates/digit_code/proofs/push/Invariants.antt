-- `digit_code::push` meets its contract. Assumes nothing.
use Rattle.digit_code.specs.Stack.{Pushed}
use Rattle.digit_code.proofs.push.Given as goal

abbrev pub invariant-loop : goal.invariant-loop
invariant-loop l = Pushed l.initial.places l.places l.t l.v l.counter l.r
