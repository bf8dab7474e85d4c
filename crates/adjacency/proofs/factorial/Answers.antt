-- `adjacency::factorial` meets its contract. The loop's invariant: f is the factorial of i - 1. Assumes nothing.
use mathlib.Core.Path.{◌≡◌, refl, ◌∙◌}
use Prim.Native.Nat.{ℕ, ◌+◌, ◌-◌, ◌*◌, ◌≤◌, ◌<◌}
use native.Mathlib.Nat.{mul_comm}
use Rattle.limits.specs.document.Limits.{zero_size}
use Rattle.adjacency.specs.document.Adjacency.{factorial}
use Rattle.adjacency.proofs.Mixing.{factorial_fits, factorial-more}
use native.Mathlib.Omega.{arith}
use Rattle.adjacency.proofs.factorial.Goals as goal

-- one factor more
times : (i : ℕ) → 1 ≤ i → factorial (i - 1) * i ≡ factorial i
times i h = let e : i - 1 + 1 ≡ i = omega arith in mul_comm (factorial (i - 1)) i ∙ (rw e at (factorial-more (i - 1)))

pub loop-i-init : goal.loop-i-init
unfolding factorial
loop-i-init c = (omega arith, refl)

pub overflow_mul-f : goal.overflow_mul-f
overflow_mul-f c = let l = c.loop-i in
    let h : l.i < zero_size = omega arith in
    rw (l.invariant.1, times l.i (omega arith)) (omega (arith, factorial_fits h))

pub loop-i-preserved : goal.loop-i-preserved
loop-i-preserved c = let l = c.loop-i in
    let e : l.i + 1 - 1 ≡ l.i = omega arith in
    (omega arith, rw (l.invariant.1, e) (times l.i (omega arith)))

pub returns : goal.returns
returns c = let e : c.loop-i.i - 1 ≡ c.args.k = omega arith in rw (← e) c.loop-i.invariant.1

pub returns-2 : goal.returns-2
returns-2 c = let e : c.loop-i.i ≡ c.args.k = omega arith in rw (← e, c.loop-i.invariant.1) (times c.loop-i.i (omega arith))
