-- `listing_text::list_lines` meets its contract: the loop keeps that the answers to the lines passed are put. Assumes nothing.
use mathlib.Core.Path.{◌∙◌}
use native.Mathlib.Omega.{arith}
use Rattle.refusal.specs.document.Outcome.{told}
use Rattle.listing_text.proofs.Putting.{long}
use Rattle.listing_text.proofs.Passing.{going_none, going_more, behind-falls, not_more, one_more, going_all}
use Rattle.listing_text.proofs.list_lines.Goals as goal

pub loop-at-init : goal.loop-at-init
loop-at-init c = going_none _ _ _ _

pub overflow_add-line : goal.overflow_add-line
overflow_add-line c = omega (arith, c.loop-at.invariant.fewer, c.loop-at-test.true)

pub overflow_add-read : goal.overflow_add-read
overflow_add-read c = omega (arith, one_more c.loop-at.invariant c.loop-at-test.true (told c.first-a.result), c.is_record-read.ensures)

pub loop-at-smaller : goal.loop-at-smaller
loop-at-smaller c = omega (arith, behind-falls c.behind-at.ensures c.loop-at-test.true, c.loop-at-test.true)

pub loop-at-preserved : goal.loop-at-preserved
loop-at-preserved c = rw c.is_record-read.ensures
    (going_more c.loop-at.invariant c.loop-at-test.true c.first-a.ensures c.answer-w.ensures c.behind-at.ensures)

pub overflow_sub-line : goal.overflow_sub-line
overflow_sub-line c = not_more c.loop-at.invariant

pub shape_of-out : goal.shape_of-out
shape_of-out c = c.totals-end.auto.out ∙ long c.loop-at.invariant.shown

pub returns : goal.returns
returns c = going_all c.loop-at.invariant c.requires.text_len_bound c.loop-at-test.false c.totals-end.ensures
