-- `form_coder::write_marks` meets its contract. Assumes nothing.
use native.Mathlib.Omega.{arith}
use Rattle.laws.specs.Laying.{mapped-none, mapped-more}
use Rattle.form_coder.proofs.write_marks.Goals as goal

pub loop-i-init : goal.loop-i-init
loop-i-init c = mapped-none _ _ _ (omega (arith, c.requires.ds_len_bound))

pub loop-i-preserved : goal.loop-i-preserved
loop-i-preserved c = mapped-more _ _ _ (omega (arith, c.requires.ds_len_bound)) c.loop-i.invariant c.loop-i-test.true
