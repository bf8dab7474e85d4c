-- `edge_list::loops` meets its contract. The loop's invariant: 7 applies at no place before p. Assumes nothing.
use Prim.Native.Nat.{ℕ, ◌+◌, ◌<◌}
use native.Mathlib.Omega.{arith}
use borrow.Author.Count.{below_more}
use Rattle.refusal.specs.Laws.{clear_one}
use Rattle.refusal.proofs.Laws.{first-place}
use Rattle.refusal.specs.Checks.{passes, fails}
use Rattle.edge_list.specs.document.Edges.{row7}
use Rattle.edge_list.proofs.loops.Goals as goal
use Rattle.edge_list.proofs.loops.Goals.{Else-one-other}

-- 7 applies at no place up to p
more : (c : Else-one-other) → (q : ℕ) → q < c.loop-p.p + 1 → (row7 c.args.edges.now).applies q → ⊥
more c = below_more _ _ c.loop-p.invariant (λ a. c.if-one-other.false (cc a.1))

pub returns-then-one-other : goal.returns-then-one-other
returns-then-one-other c = fails (first-place ((omega arith, omega arith), (cc)) c.loop-p.invariant)

pub returns : goal.returns
returns c = passes (clear_one (λ q a. c.loop-p.invariant q (omega (arith, a.0)) a))

pub returns-else-one-other : goal.returns-else-one-other
returns-else-one-other c = passes (clear_one (λ q a. more (goal.at.returns-else-one-other c).Else-one-other q (omega (arith, a.0)) a))
