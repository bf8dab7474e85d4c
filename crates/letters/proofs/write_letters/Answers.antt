-- `letters::write_letters` meets its contract. Assumes nothing.
use mathlib.Core.Path.{sym, subst}
use Prim.Native.Nat.{ℕ, ◌+◌, ◌%◌}
use native.Mathlib.Omega.{arith}
use lib.ListN.{set}
use Rattle.laws.specs.Laying.{Mapped, mapped-none, mapped-more, mapped-all}
use Rattle.skeleton.specs.document.Atom.{named, letter}
use Rattle.letters.specs.document.Letters.{letters_of}
use Rattle.letters.proofs.write_letters.Goals as goal

-- the letter of a mark
abbrev told : ℕ → ℕ
told m = letter (named (m % 3))

pub loop-i-init : goal.loop-i-init
loop-i-init c = mapped-none _ _ _ c.requires

pub loop-i-preserved : goal.loop-i-preserved
loop-i-preserved c = subst (λ x. Mapped told c.args.marks.now c.args.out.now (set c.loop-i.out c.loop-i.i x) (c.loop-i.i + 1)) (sym c.lettered.ensures)
    (mapped-more _ _ _ c.requires c.loop-i.invariant (omega arith))

pub returns : goal.returns
unfolding letters_of
returns c = mapped-all _ _ _ c.requires c.loop-i.invariant (omega arith)
