-- `digit_code::ordered_marks` meets its contract: the loop keeps the lowest place of a larger child of the marks passed. Assumes nothing.
use mathlib.Core.Path.{subst}
use native.Mathlib.Omega.{arith}
use Rattle.digit_code.specs.Two.{arity_of, known-marks}
use Rattle.digit_code.proofs.Lowest.{Best, best_none, best_same, best_lower, all_fall, one-rises}
use Rattle.digit_code.proofs.ordered_marks.Goals as goal
use Rattle.digit_code.proofs.ordered_marks.Goals.{in-Some, in_default}

pub loop-i-init : goal.loop-i-init
loop-i-init c = (known-marks c.requires.ds_value c.ends_of.ensures, best_none _)

pub loop-i-preserved : goal.loop-i-preserved
loop-i-preserved c = (
  c.loop-i.invariant.0,
  elim c.match-larger_of.branch [
    | in-Some w ↦ rw (w.best-is, w.min.ensures, w.unwrap_or.ensures) (best_lower c.loop-i.best c.loop-i.invariant.1 w.in-Some.ensures)
    | in_default w ↦ rw w.best-is (best_same c.loop-i.best c.loop-i.invariant.1 w.in_default.ensures)
  ],
)

pub returns-in-Some-best : goal.returns-in-Some-best
returns-in-Some-best c = one-rises (omega arith) (subst (Best (arity_of c.args.named) c.args.ms.now c.loop-i.i) c.in-Some-best.is c.loop-i.invariant.1)

pub returns-in-None : goal.returns-in-None
returns-in-None c = all_fall (omega arith) (subst (Best (arity_of c.args.named) c.args.ms.now c.loop-i.i) c.in-None.is c.loop-i.invariant.1)
