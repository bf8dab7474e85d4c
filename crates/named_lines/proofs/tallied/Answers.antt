-- `named_lines::tallied` meets its contract: the loop keeps how often the byte stood in what is passed. Assumes nothing.
use mathlib.Core.Path.{◌∙◌}
use native.Mathlib.Omega.{arith}
use Rattle.named_lines.specs.Finding.{tally-none, tally_here, tally_not}
use Rattle.named_lines.proofs.tallied.Goals as goal
use Rattle.named_lines.proofs.tallied.Goals.{then-b-a, else-b-a}

pub loop-b-init : goal.loop-b-init
loop-b-init c = (omega arith, tally-none c.args.a c.args.t.now)

pub loop-b-preserved : goal.loop-b-preserved
loop-b-preserved c =
    elim c.if-b-a.branch [
      | then-b-a w ↦ (omega (arith, c.loop-b.invariant), w.n-is ∙ tally_here c.args.a c.args.t.now c.loop-b.invariant.1 (omega arith) w.if-b-a.true)
      | else-b-a w ↦ (omega (arith, c.loop-b.invariant), w.n-is ∙ tally_not c.args.a c.args.t.now c.loop-b.invariant.1 (omega arith) w.if-b-a.false)
    ]
