-- `letters::write_letters` meets its contract. Assumes nothing.
use Prim.Native.Nat.{ℕ, ◌%◌}
use Rattle.laws.specs.Laying.{Mapped}
use Rattle.skeleton.specs.document.Atom.{named, letter}
use Rattle.letters.proofs.write_letters.Given as goal

-- the letter of a mark
abbrev told : ℕ → ℕ
told m = letter (named (m % 3))

abbrev pub invariant-loop-i : goal.invariant-loop-i
invariant-loop-i l = Mapped told l.marks l.initial.out l.out l.i
