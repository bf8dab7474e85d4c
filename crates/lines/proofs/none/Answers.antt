-- `lines::none` meets its contract: while it says so, no byte passed is k. Assumes nothing.
use mathlib.Core.Path.{sym, ◌∙◌}
use mathlib.Core.Bool.{false≢true}
use native.Mathlib.Omega.{arith}
use Rattle.laws.specs.Each.{passed-more, passed-all}
use Rattle.lines.proofs.none.Goals as goal
use Rattle.lines.proofs.none.Goals.{then-b-k, else-b-k}

pub loop-b-init : goal.loop-b-init
loop-b-init c e = record { within = omega arith; each = tt }

pub loop-b-preserved : goal.loop-b-preserved
loop-b-preserved c e =
    elim c.if-b-k.branch [ then-b-k w ↦ absurd (false≢true (sym w.free-is ∙ e)) | else-b-k w ↦ passed-more (c.loop-b.invariant (sym w.free-is ∙ e)) (omega arith) w.if-b-k.false ]

pub returns : goal.returns
returns c e = passed-all (c.loop-b.invariant e) (omega arith)
