-- `digit_code::ended` meets its contract: the loop keeps how many places are open. Assumes nothing.
use mathlib.Core.Path.{refl, subst}
use native.Mathlib.Omega.{arith}
use Rattle.refusal.specs.document.Table.{FirstRefusal}
use Rattle.refusal.specs.Checks.{passes, fails}
use Rattle.digit_code.specs.Counting.{open_first, open_next, open_last, ends_whole, ends_early, ends_not}
use Rattle.digit_code.proofs.ended.Goals as goal

pub loop-i-init : goal.loop-i-init
loop-i-init c = (open_first _, omega arith)

pub returns-then-i-code : goal.returns-then-i-code
returns-then-i-code c = fails (subst (FirstRefusal _ 11) (omega arith) (ends_early (open_last c.loop-i.invariant.0 (omega arith) c.if-open-eq0.true) (omega arith)))

pub returns-then-open-eq0 : goal.returns-then-open-eq0
returns-then-open-eq0 c = passes (ends_whole (open_last c.loop-i.invariant.0 (omega arith) c.if-open-eq0.true) (omega arith))

pub loop-i-preserved : goal.loop-i-preserved
loop-i-preserved c = (
  open_next c.loop-i.invariant.0 (omega arith) refl c.if-open-eq0.false,
  omega (arith, c.type_inv.code c.loop-i.i),
)

pub returns : goal.returns
returns c = fails (subst (FirstRefusal _ 12) (omega arith) (ends_not c.loop-i.invariant.0 (omega arith)))
