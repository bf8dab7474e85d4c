-- `form_coder::read_atoms` meets its contract. Assumes nothing.
use mathlib.Core.Path.{sym}
use Prim.Native.Nat.{ℕ, ◌%◌}
use native.Mathlib.Omega.{arith}
use Rattle.laws.specs.Laying.{mapped-none, mapped-more, mapped-all}
use Rattle.skeleton.specs.document.Label.{labels}
use Rattle.skeleton.specs.document.AtomMarks.{atoms}
use Rattle.skeleton.specs.Atoms.{rank-named}
use Rattle.letters.specs.Naming.{named-laid}
use Rattle.form_coder.proofs.read_atoms.Goals as goal

abbrev rest : ℕ → ℕ
rest m = m % 3

pub loop-i-init : goal.loop-i-init
loop-i-init c = mapped-none _ _ _ (omega (arith, c.requires))

pub loop-i-preserved : goal.loop-i-preserved
loop-i-preserved c = mapped-more _ _ _ (omega (arith, c.requires)) c.loop-i.invariant c.loop-i-test.true

pub returns : goal.returns
unfolding labels
returns c = let (few, long) = c.requires in
    named-laid rest atoms.atom (λ m. sym (rank-named (m % 3) (omega arith))) c.args.code.now c.args.atoms.now long few (mapped-all _ _ _ (omega (arith, c.requires)) c.loop-i.invariant (omega (arith, c.loop-i-test.false)))
