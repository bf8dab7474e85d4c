-- `bits::ranged` meets its contract. Assumes nothing.
use mathlib.Core.Path.{◌≡◌, refl, ◌∙◌}
use Prim.Native.Nat.{◌-◌, ◌*◌, ◌%◌, ◌^◌}
use native.Mathlib.Nat.{one-mul}
use native.Mathlib.Omega.{arith}
use lib.Dec.{lit<}
use lib.Pow.{shl_exact}
use Rattle.refusal.specs.Checks.{passes, fails}
use Rattle.refusal.specs.Laws.{clear_one}
use Rattle.refusal.proofs.Laws.{first-place}
use Rattle.bits.specs.document.Bits.{row4_whole}
use Rattle.bits.proofs.ranged.Goals as goal

pub returns-then-n-x : goal.returns-then-n-x
returns-then-n-x c = let power : 1 * 2 ^ (2 * c.args.n - 1) % 2 ^ 64 ≡ 2 ^ (2 * c.args.n - 1) = let k = 2 * c.args.n - 1 in shl_exact {a = 1} 1 k 64 (lit< tt) (omega arith) ∙ one-mul (2 ^ k) in
    let a = c.args in fails (first-place {r = row4_whole a.n a.x} (refl, rw (power) at c.if-n-x.true) (λ q l h. omega arith))

pub returns : goal.returns
returns c = let power : 1 * 2 ^ (2 * c.args.n - 1) % 2 ^ 64 ≡ 2 ^ (2 * c.args.n - 1) = let k = 2 * c.args.n - 1 in shl_exact {a = 1} 1 k 64 (lit< tt) (omega arith) ∙ one-mul (2 ^ k) in
    let a = c.args in passes (clear_one {r = row4_whole a.n a.x} (λ p h. omega (arith, power, h.1)))
