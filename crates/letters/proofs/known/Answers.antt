-- `letters::known` meets its contract: the loop keeps that each byte passed is a letter. Assumes nothing.
use mathlib.Core.Path.{refl}
use native.Mathlib.Omega.{arith}
use Rattle.laws.specs.Tells.{was_held, was_denied}
use Rattle.laws.specs.Each.{passed-more, passed-all, each_at}
use Rattle.refusal.specs.Laws.{clear_one}
use Rattle.refusal.proofs.Laws.{first-place}
use Rattle.refusal.specs.Checks.{passes, fails}
use Rattle.skeleton.specs.document.Atom.{Letter}
use Rattle.letters.proofs.known.Goals as goal

pub returns-then-not-is_letter : goal.returns-then-not-is_letter
returns-then-not-is_letter c = fails (first-place (refl, λ h. was_denied c.is_letter.ensures c.if-not-is_letter.true (each_at Letter c.args.letters.now c.loop-b.b-index h (omega arith))) (λ q c. omega arith))

pub loop-b-preserved : goal.loop-b-preserved
loop-b-preserved c = passed-more c.loop-b.invariant (omega arith) (was_held c.is_letter.ensures c.if-not-is_letter.false)

pub returns : goal.returns
returns c = passes (clear_one (λ q a. a.1 (passed-all c.loop-b.invariant (omega arith))))
