-- `edge_list::vertices` meets its contract. The loop's invariant: 6 applies at no place before p. Assumes nothing.
use mathlib.Core.Path.{refl}
use mathlib.Core.Logic.{inl, inr, ⊎_elim}
use mathlib.Core.List.{List, [], ◌∷◌}
use Prim.Native.Nat.{ℕ, ◌+◌, ◌*◌, ◌<◌, ◌≤◌}
use lib.ListN.{length}
use Rattle.refusal.specs.Checks.{Answers}
use Rattle.std.specs.Prelude.{Ok}
use native.Mathlib.Omega.{arith}
use borrow.Author.Count.{below_more}
use Rattle.refusal.specs.Laws.{clear_one}
use Rattle.refusal.proofs.Laws.{first-place}
use Rattle.refusal.specs.Checks.{passes, fails}
use Rattle.laws.specs.Tells.{was_held, was_denied}
use Rattle.edge_list.specs.document.Edges.{row6}
use Rattle.edge_list.proofs.vertices.Goals as goal
use Rattle.edge_list.proofs.vertices.Goals.{Else-stray}

-- a place where 6 applies is that of the root or of an edge
passed : {n p : ℕ} (E : List ℕ) {r : ℕ} → ((q : ℕ) → q < p → (row6 n E r).applies q → ⊥) → 1 ≤ p → length E < 2 * p → Answers (row6 n E r ∷ []) (Ok tt)
passed E h l m = passes (clear_one (λ q a. h q (⊎_elim (λ r. omega (arith, r.0)) (λ e. omega (arith, e.0)) a) a))

-- 6 applies at no place up to p
more : (c : Else-stray) → (q : ℕ) → q < c.loop-p.p + 1 → (row6 c.args.n c.args.edges.now c.args.root).applies q → ⊥
more c = below_more _ _ c.loop-p.invariant
    (λ h. ⊎_elim (λ r. let n : ⊥ = omega (arith, r.0) in n) (λ e. was_denied c.stray.ensures c.if-stray.false e.1) h)

pub returns-then-outside : goal.returns-then-outside
returns-then-outside c = fails (first-place (inl (refl, was_held c.outside.ensures c.if-outside.true)) (λ q l a. let n : ⊥ = omega arith in n))

pub returns-then-stray : goal.returns-then-stray
returns-then-stray c = fails (first-place (inr ((omega arith, omega arith), was_held c.stray.ensures c.if-stray.true)) c.loop-p.invariant)

pub returns-else-outside : goal.returns-else-outside
returns-else-outside c = passed _ c.loop-p.invariant (omega arith) (omega arith)

pub returns-else-stray : goal.returns-else-stray
returns-else-stray c = passed _ (more (goal.at.returns-else-stray c).Else-stray) (omega arith) (omega arith)
