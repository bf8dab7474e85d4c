-- `adjacency::physical` meets its contract. The loop's invariant: 14 applies at no vertex before v. Assumes nothing.
use Prim.Native.Nat.{ℕ, ◌+◌, ◌<◌}
use native.Mathlib.Omega.{arith}
use borrow.Author.Count.{below_more}
use Rattle.refusal.specs.Laws.{clear_one}
use Rattle.refusal.proofs.Laws.{first-place}
use Rattle.refusal.specs.Checks.{passes, fails}
use Rattle.adjacency.specs.document.Adjacency.{row14_physical}
use Rattle.adjacency.proofs.Search.{only_one, only_none}
use Rattle.adjacency.proofs.physical.Goals as goal
use Rattle.adjacency.proofs.physical.Goals.{Else-is_none}

-- one vertex more
step : (c : Else-is_none) → (q : ℕ) → q < c.loop-v.v + 1 → (row14_physical c.args.n c.args.edges.now).applies q → ⊥
step c = below_more _ _ c.loop-v.invariant (λ a. a.2 (only_one c.args.edges.now c.loop-v.v c.only.result c.only.ensures c.if-is_none.ensures))

pub returns-then-is_none : goal.returns-then-is_none
returns-then-is_none c =
    fails (first-place (omega arith, omega arith, only_none c.args.edges.now c.loop-v.v c.only.result c.only.ensures c.if-is_none.ensures) c.loop-v.invariant)

pub returns : goal.returns
returns c = passes (clear_one (λ q a. c.loop-v.invariant q (omega (arith, a.1)) a))

pub returns-else-is_none : goal.returns-else-is_none
returns-else-is_none c = passes (clear_one (λ q a. step (goal.at.returns-else-is_none c).Else-is_none q (omega (arith, a.1)) a))
