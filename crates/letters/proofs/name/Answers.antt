-- `letters::name` meets its contract. Assumes nothing.
use mathlib.Core.Path.{refl, sym, subst}
use Prim.Native.Nat.{ℕ, ◌+◌}
use native.Mathlib.Omega.{arith}
use lib.ListN.{set}
use Rattle.laws.specs.Laying.{Mapped, mapped-none, mapped-more, mapped-all}
use Rattle.skeleton.specs.document.Atom.{rank, atom_of}
use Rattle.letters.specs.Naming.{named-laid}
use Rattle.letters.proofs.name.Goals as goal

abbrev told : ℕ → ℕ
told b = rank (atom_of b)

pub loop-i-init : goal.loop-i-init
loop-i-init c = mapped-none _ _ _ (omega (arith, c.requires))

pub loop-i-preserved : goal.loop-i-preserved
loop-i-preserved c = subst (λ x. Mapped told c.args.letters.now c.args.atoms.now (set c.loop-i.atoms c.loop-i.i x) (c.loop-i.i + 1)) (sym c.ranked.ensures)
    (mapped-more _ _ _ (omega (arith, c.requires)) c.loop-i.invariant c.loop-i-test.true)

pub returns : goal.returns
returns c = let (few, long) = c.requires in
    named-laid told atom_of (λ x. refl) c.args.letters.now c.args.atoms.now long few (mapped-all _ _ _ (omega (arith, c.requires)) c.loop-i.invariant (omega (arith, c.loop-i-test.false)))
