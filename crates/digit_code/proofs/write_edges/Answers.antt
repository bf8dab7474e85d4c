-- `digit_code::write_edges` meets its contract: the loop keeps what is written and which places are open. Assumes nothing.
use mathlib.Core.Path.{refl}
use native.Mathlib.Omega.{arith}
use lib.ListN.{length-set}
use Rattle.digit_code.proofs.Writing.{turn, first_few, decoding_first, decoding_next, decoded}
use Rattle.digit_code.proofs.write_edges.Goals as goal

pub push-t-requires : goal.push-t-requires
push-t-requires c = omega (arith, first_few c.args.code.now c.requires.ends)

pub loop-i-init : goal.loop-i-init
loop-i-init c = decoding_first _ c.requires.ends refl c.push-t.ensures

pub overflow_sub-t : goal.overflow_sub-t
overflow_sub-t c = (turn c.requires.code_len_bound c.requires.code_in_bounds c.loop-i.invariant (omega arith)).one_open

pub bounds-places-t : goal.bounds-places-t
bounds-places-t c = (turn c.requires.code_len_bound c.requires.code_in_bounds c.loop-i.invariant (omega arith)).in_places

pub bounds-out-at : goal.bounds-out-at
bounds-out-at c = omega (arith, turn c.requires.code_len_bound c.requires.code_in_bounds c.loop-i.invariant (omega arith))

pub bounds-out-at-in-loop-i : goal.bounds-out-at-in-loop-i
bounds-out-at-in-loop-i c = simp length-set (omega (arith, turn c.requires.code_len_bound c.requires.code_in_bounds c.loop-i.invariant (omega arith)))

pub push-t-requires-in-loop-i : goal.push-t-requires-in-loop-i
push-t-requires-in-loop-i c = (turn c.requires.code_len_bound c.requires.code_in_bounds c.loop-i.invariant (omega arith)).pushes

pub loop-i-preserved : goal.loop-i-preserved
loop-i-preserved c = decoding_next c.requires.code_len_bound c.requires.code_in_bounds c.loop-i.invariant (omega arith) c.push-t-in-loop-i.ensures

pub returns : goal.returns
returns c = decoded c.loop-i.invariant (omega arith)
