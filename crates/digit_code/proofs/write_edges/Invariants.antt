-- `digit_code::write_edges` meets its contract: the loop keeps what is written and which places are open. Assumes nothing.
use Rattle.digit_code.proofs.Writing.{Decoding}
use Rattle.digit_code.proofs.write_edges.Given as goal

abbrev pub invariant-loop-i : goal.invariant-loop-i
invariant-loop-i l = Decoding l.code l.initial.out l.out l.places l.t l.at l.i
