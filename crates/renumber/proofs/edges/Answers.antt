-- `renumber::edges` meets its contract. The loop's invariant: 19 applies at no edge before p. Assumes nothing.
use Prim.Native.Nat.{ℕ, ◌+◌, ◌<◌}
use native.Mathlib.Omega.{arith}
use borrow.Author.Count.{below_more}
use Rattle.laws.specs.Tells.{was_held, was_denied}
use Rattle.refusal.specs.Laws.{clear_one}
use Rattle.refusal.proofs.Laws.{first-place}
use Rattle.refusal.specs.Checks.{passes, fails}
use Rattle.renumber.specs.document.Map.{row19}
use Rattle.renumber.proofs.edges.Goals as goal
use Rattle.renumber.proofs.edges.Goals.{Else-not-carried}

-- 19 applies at no edge up to p
more : (c : Else-not-carried) → (q : ℕ) → q < c.loop-p.p + 1 → (row19 c.args.edges1.now c.args.edges2.now c.args.map.now).applies q → ⊥
more c = below_more _ _ c.loop-p.invariant (λ a. a.1 (was_held c.carried.ensures c.if-not-carried.false))

pub loop-p-preserved : goal.loop-p-preserved
loop-p-preserved c = more (goal.at.loop-p-preserved c).Else-not-carried

pub returns-then-not-carried : goal.returns-then-not-carried
returns-then-not-carried c = fails (first-place ((omega arith, omega arith), was_denied c.carried.ensures c.if-not-carried.true) c.loop-p.invariant)

pub returns : goal.returns
returns c = passes (clear_one (λ q a. c.loop-p.invariant q (omega (arith, a.0)) a))

pub returns-else-not-carried : goal.returns-else-not-carried
returns-else-not-carried c = passes (clear_one (λ q a. more (goal.at.returns-else-not-carried c).Else-not-carried q (omega (arith, a.0)) a))
