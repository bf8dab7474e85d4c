-- `edge_list::cycles` meets its contract. The loop's invariant: the heads tell rightly what the edges before p join, and 8 applies at no
-- place before p. Assumes nothing.
use Prim.Native.Nat.{ℕ, ◌+◌, ◌<◌}
use native.Mathlib.Omega.{arith}
use borrow.Author.Count.{below_more}
use Rattle.refusal.specs.Laws.{clear_one}
use Rattle.refusal.proofs.Laws.{first-place}
use Rattle.refusal.specs.Checks.{passes, fails}
use Rattle.edge_list.proofs.Heads.{known-none, known_more, known_joined, known_same}
use Rattle.edge_list.specs.document.Edges.{row8}
use Rattle.edge_list.proofs.cycles.Goals as goal
use Rattle.edge_list.proofs.cycles.Goals.{Else-a-b}

-- 8 applies at no place up to p
more : (c : Else-a-b) → (q : ℕ) → q < c.loop-p.p + 1 → (row8 c.args.edges.now).applies q → ⊥
more c = below_more _ _ c.loop-p.invariant.1
    (λ z. c.if-a-b.false (known_same c.loop-p.invariant.0 c.one-u.ensures c.other-v.ensures c.head-a.ensures c.head-b.ensures z.1))

pub loop-p-init : goal.loop-p-init
loop-p-init c = (known-none _ c.part.ensures, λ q l a. let n : ⊥ = omega (arith, a.0) in n)

pub returns-then-a-b : goal.returns-then-a-b
returns-then-a-b c = let w = known_joined c.loop-p.invariant.0 c.one-u.ensures c.other-v.ensures c.head-a.ensures c.head-b.ensures c.if-a-b.true in
    fails (first-place ((omega arith, omega arith), w) c.loop-p.invariant.1)

pub loop-p-preserved : goal.loop-p-preserved
loop-p-preserved c = (
  known_more c.loop-p.invariant.0 c.one-u.ensures c.other-v.ensures c.head-a.ensures c.head-b.ensures (omega arith) c.if-a-b.false c.min-low.ensures c.max-high.ensures,
  more (goal.at.loop-p-preserved c).Else-a-b,
)

pub returns : goal.returns
returns c = passes (clear_one (λ q a. c.loop-p.invariant.1 q (omega (arith, a.0)) a))

pub returns-else-a-b : goal.returns-else-a-b
returns-else-a-b c = passes (clear_one (λ q a. more (goal.at.returns-else-a-b c).Else-a-b q (omega (arith, a.0)) a))
