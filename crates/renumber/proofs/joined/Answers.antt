-- `renumber::joined` meets its contract. The loop's invariant: no edge before p joins a and b. Assumes nothing.
use mathlib.Core.Path.{◌≡◌, ap₂, ◌∙◌}
use mathlib.Core.Logic.{⊎_elim}
use mathlib.Core.List.Memᴰ
use mathlib.Core.List.{List, Memᴰ}
use Prim.Native.Nat.{ℕ, ◌+◌}
use native.Mathlib.Omega.{arith}
use Rattle.laws.specs.Tells.{holds, denies, was_held, was_denied}
use Rattle.skeleton.specs.document.Skeleton.{Arc, arcs}
use Rattle.edge_list.specs.document.Edges.{Edge, first_end, second_end, before}
use Rattle.edge_list.specs.Prefix.{arcs-none, arcs-more, arcs-all}
use Rattle.renumber.specs.Accepted.{edge_arcs}
use Rattle.renumber.proofs.joined.Goals as goal
use Rattle.renumber.proofs.joined.Goals.{Else-same-2, then-same-via-then-same, then-same-via-else-same+then-same-2}

-- edge p, from u to v: one more that is passed
module _ (F : List ℕ) (p : ℕ) (h : Edge F p) {a b u v : ℕ} (i : u ≡ first_end F p) (j : v ≡ second_end F p) where
  passed : (Memᴰ (a, b) (arcs (before F p)) → ⊥) → (◌≡◌ {A = Arc} (a, b) (u, v) → ⊥) → (◌≡◌ {A = Arc} (a, b) (v, u) → ⊥) → Memᴰ (a, b) (arcs (before F (p + 1))) → ⊥
  passed f x y m =
      ⊎_elim f (λ k. ⊎_elim x (λ k. ⊎_elim y Memᴰ.not-nil (Memᴰ.cases_cons k)) (Memᴰ.cases_cons k))
      (Memᴰ.append_cases (arcs (before F p)) (rw (arcs-more F p h, ← i, ← j) at m))

  forth : ◌≡◌ {A = Arc} (a, b) (u, v) → Memᴰ (a, b) (arcs F)
  forth e = Memᴰ.cast (e ∙ ap₂ (λ (x y : ℕ). (x, y)) i j) (edge_arcs F p h).0

  back : ◌≡◌ {A = Arc} (a, b) (v, u) → Memᴰ (a, b) (arcs F)
  back e = Memᴰ.cast (e ∙ ap₂ (λ (x y : ℕ). (x, y)) j i) (edge_arcs F p h).1

-- none up to p does
more : (c : Else-same-2) → Memᴰ (c.args.a, c.args.b) (arcs (before c.args.edges.now (c.loop-p.p + 1))) → ⊥
more c =
    passed _ c.loop-p.p (omega arith, omega arith) c.one-u.ensures.0 c.other-v.ensures.0 c.loop-p.invariant (was_denied c.same.ensures c.if-same.false)
    (was_denied c.same-else-same.ensures c.if-same-2.false)

pub loop-p-init : goal.loop-p-init
loop-p-init c = λ m. Memᴰ.not-nil (rw (arcs-none _) at m)

pub returns-then-same : goal.returns-then-same
returns-then-same c = holds (elim c.then-same.branch [
  | then-same-via-then-same w ↦ forth _ c.loop-p.p (omega arith, omega arith) c.one-u.ensures.0 c.other-v.ensures.0 (was_held c.same.ensures w.if-same.true)
  | then-same-via-else-same+then-same-2 w ↦ back _ c.loop-p.p (omega arith, omega arith) c.one-u.ensures.0 c.other-v.ensures.0 (was_held w.same-else-same.ensures w.if-same-2.true)
])

pub loop-p-preserved : goal.loop-p-preserved
loop-p-preserved c = more (goal.at.loop-p-preserved c).Else-same-2

pub returns : goal.returns
returns c = denies (λ m. c.loop-p.invariant (rw (arcs-all c.args.edges.now c.loop-p.p (omega arith)) m))

pub returns-else-same-2 : goal.returns-else-same-2
returns-else-same-2 c = denies (λ m. more (goal.at.returns-else-same-2 c).Else-same-2 (rw (arcs-all c.args.edges.now (c.loop-p.p + 1) (omega arith)) m))
