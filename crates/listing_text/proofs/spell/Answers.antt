-- `listing_text::spell` meets its contract: the loop keeps that what is left of the number stands before its last digits. Assumes nothing.
use native.Mathlib.Omega.{arith}
use Rattle.listing_text.proofs.Spelling.{begun, room, digit-more, spelt}
use Rattle.listing_text.proofs.spell.Goals as goal

pub loop-rest-init : goal.loop-rest-init
loop-rest-init c = begun _ _ c.args.out.now (omega arith) c.requires

pub overflow_sub-at : goal.overflow_sub-at
overflow_sub-at c = room c.loop-rest.invariant

pub bounds-out-at : goal.bounds-out-at
bounds-out-at c = omega (arith, c.loop-rest.invariant.within, room c.loop-rest.invariant)

pub loop-rest-preserved : goal.loop-rest-preserved
loop-rest-preserved c = digit-more c.loop-rest.invariant (omega arith)

pub overflow_sub-at-2 : goal.overflow_sub-at-2
overflow_sub-at-2 c = room c.loop-rest.invariant

pub bounds-out-at-2 : goal.bounds-out-at-2
bounds-out-at-2 c = omega (arith, c.loop-rest.invariant.within, room c.loop-rest.invariant)

pub returns : goal.returns
returns c = spelt c.loop-rest.invariant (omega arith)
