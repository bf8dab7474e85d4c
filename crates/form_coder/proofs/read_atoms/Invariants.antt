-- `form_coder::read_atoms` meets its contract. Assumes nothing.
use Prim.Native.Nat.{ℕ, ◌%◌}
use Rattle.laws.specs.Laying.{Mapped}
use Rattle.form_coder.proofs.read_atoms.Given as goal

abbrev rest : ℕ → ℕ
rest m = m % 3

abbrev pub invariant-loop-i : goal.invariant-loop-i
invariant-loop-i l = Mapped rest l.code l.initial.atoms l.atoms l.i
