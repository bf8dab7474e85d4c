-- What the smaller of two numbers that differ tells. Assumes nothing.
use mathlib.Core.Path.{◌≡◌}
use mathlib.Core.Bool.{true, false}
use Prim.Native.Nat.{ℕ, ◌<◌}
use native.Mathlib.Omega.{arith}
use lib.Dec.{ltb}
use Rattle.std.proofs.Math.Decide.{dec_lt}
use Rattle.std.proofs.lemmas.Bool.Decides.{nat_tests}
use Rattle.laws.specs.Tells.{Tells}

module _ {P : Type 0} {m n : ℕ} (d : m ≡ n → ⊥) (so : m < n → Tells P true) (not : n < m → Tells P false) where
  pub by_smaller : Tells P (ltb m n)
  by_smaller = go (dec_lt m n)
    where
      go : Dec (m < n) → Tells P (ltb m n)
      go (yes h) = let e : ltb m n ≡ true = grind (arith, nat_tests) in rw e (so h)
      go (no h) = let e : ltb m n ≡ false = grind (arith, nat_tests) in rw e (not (omega arith))
