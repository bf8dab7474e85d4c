-- `lines::read_digits` meets its contract: the loop keeps that the values of the bytes passed are written. Assumes nothing.
use Prim.Native.Nat.{◌-◌}
use Rattle.laws.specs.Laying.{Mapped}
use Rattle.lines.proofs.read_digits.Given as goal

abbrev pub invariant-loop-i : goal.invariant-loop-i
invariant-loop-i l = Mapped (λ b. b - 48) l.t l.initial.out l.out l.i
