-- `letters::write_digits` meets its contract. Assumes nothing.
use Prim.Native.Nat.{ℕ, ◌/◌}
use Rattle.laws.specs.Laying.{Mapped}
use Rattle.letters.proofs.write_digits.Given as goal

abbrev third : ℕ → ℕ
third m = m / 3

abbrev pub invariant-loop-i : goal.invariant-loop-i
invariant-loop-i l = Mapped third l.marks l.initial.out l.out l.i
