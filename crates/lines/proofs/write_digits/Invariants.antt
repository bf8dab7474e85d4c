-- `lines::write_digits` meets its contract: the loop keeps that the digits passed are written. Assumes nothing.
use Prim.Native.Nat.{◌+◌}
use Rattle.laws.specs.Laying.{Mapped}
use Rattle.lines.proofs.write_digits.Given as goal

abbrev pub invariant-loop-i : goal.invariant-loop-i
invariant-loop-i l = Mapped (λ d. 48 + d) l.code l.initial.out l.out l.i
