-- `form_coder::read_digits` meets its contract. Assumes nothing.
use Prim.Native.Nat.{ℕ, ◌/◌}
use Rattle.laws.specs.Laying.{Mapped}
use Rattle.form_coder.proofs.read_digits.Given as goal

abbrev third : ℕ → ℕ
third m = m / 3

abbrev pub invariant-loop-mark : goal.invariant-loop-mark
invariant-loop-mark l = Mapped third l.initial.mark-items l.initial.mark-items l.mark-items l.mark-index
