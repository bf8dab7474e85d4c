-- `letters::name` meets its contract. Assumes nothing.
use Prim.Native.Nat.{ℕ}
use Rattle.laws.specs.Laying.{Mapped}
use Rattle.skeleton.specs.document.Atom.{rank, atom_of}
use Rattle.letters.proofs.name.Given as goal

abbrev told : ℕ → ℕ
told b = rank (atom_of b)

abbrev pub invariant-loop-i : goal.invariant-loop-i
invariant-loop-i l = Mapped told l.letters l.initial.atoms l.atoms l.i
