-- `bits::digits` meets its contract. The loop's invariant: n digits are read, and their code goes on at the bit b. Assumes nothing.
use Prim.Native.Nat.{◌-◌, ◌*◌}
use lib.ListN.{length}
use Rattle.bits.specs.document.Bits.{bytes}
use Rattle.bits.specs.Found.{Sofar}
use Rattle.bits.proofs.digits.Given as goal

abbrev pub invariant-loop-b : goal.invariant-loop-b
invariant-loop-b l = Sofar l.limit (bytes l.s) l.out l.n l.b

abbrev pub decreases-loop-b : goal.decreases-loop-b
decreases-loop-b l = 8 * length l.s - l.b
