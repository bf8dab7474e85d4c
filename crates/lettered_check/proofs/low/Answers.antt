-- `lettered_check::low` meets its contract. The loop's invariant: it says so only of what is passed, and denies it only of all. Assumes nothing.
use mathlib.Core.Path.{sym, ◌∙◌}
use mathlib.Core.Bool.{false≢true}
use native.Mathlib.Omega.{arith}
use Rattle.laws.specs.Each.{passed-more, passed-all, each_at}
use Rattle.laws.specs.Tells.{tells}
use Rattle.lettered_check.specs.Rows.{Low}
use Rattle.lettered_check.proofs.low.Goals as goal
use Rattle.lettered_check.proofs.low.Goals.{then-k-gt-VALENCE, else-k-gt-VALENCE}

pub loop-k-preserved : goal.loop-k-preserved
loop-k-preserved c =
    elim c.if-k-gt-VALENCE.branch [
      | then-k-gt-VALENCE w ↦ (
        (λ e. absurd (false≢true (sym w.all-is ∙ e))),
        λ e f. omega (arith, each_at Low c.args.ds.now c.loop-k.k-index f (omega arith), w.if-k-gt-VALENCE.true),
      )
      | else-k-gt-VALENCE w ↦ (
        (λ e. passed-more (c.loop-k.invariant.0 (sym w.all-is ∙ e)) (omega arith) (omega (arith, w.if-k-gt-VALENCE.false))),
        λ e. c.loop-k.invariant.1 (sym w.all-is ∙ e),
      )
    ]

pub returns : goal.returns
returns c = tells c.loop-k.all (λ e. passed-all (c.loop-k.invariant.0 e) (omega arith)) c.loop-k.invariant.1
