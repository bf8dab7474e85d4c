-- `digit_code::top` meets its contract. Assumes nothing.
use mathlib.Core.Path.{◌≡◌, refl}
use Prim.Native.Nat.{ℕ, zero, suc, ◌-◌, ◌≤◌, ◌<◌}
use native.Mathlib.Omega.{arith}
use Rattle.digit_code.specs.document.Code.{cap}

root : (R p : ℕ) → p ≤ 1 → R ≡ cap R p
root R zero h = refl
root R (suc zero) h = refl
root R (suc (suc p)) h = absurd (let z : ⊥ = omega arith in z)

other : (R p : ℕ) → 1 < p → R - 1 ≡ cap R p
other R zero h = absurd (let z : ⊥ = omega arith in z)
other R (suc zero) h = absurd (let z : ⊥ = omega arith in z)
other R (suc (suc p)) h = refl
