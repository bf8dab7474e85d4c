-- `edge_list::degrees` meets its contract. The loop's invariant: `room` has what the edges before p leave of it, and the row applies at no place before p, for any limits
-- that the room was. Assumes nothing.
use mathlib.Core.Path.{◌≡◌, sym, ◌∙◌}
use mathlib.Core.Logic.{inl, inr, ⊎_elim}
use Prim.Native.Nat.{ℕ, ◌+◌, ◌≤◌, ◌<◌}
use native.Mathlib.Omega.{arith}
use borrow.Author.Count.{below_more}
use lib.ListN.{get_or}
use Rattle.refusal.specs.Laws.{clear_one, never}
use Rattle.refusal.proofs.Laws.{first-place}
use Rattle.refusal.specs.Checks.{passes, fails}
use Rattle.edge_list.specs.document.Edges.{crowded_row}
use Rattle.edge_list.specs.Limited.{Limited}
use Rattle.laws.specs.Tells.{was_held, was_denied}
use Rattle.edge_list.proofs.Room.{leaves_all, leaves_less, other-left, left_at}
use Rattle.edge_list.proofs.degrees.Goals as goal
use Rattle.edge_list.proofs.degrees.Goals.{Else-full}

-- the edge at p joins two vertices, and each has room for it
apart : (c : Else-full) → c.one-a.result ≡ c.other-b.result → ⊥
apart c e = never c.requires.clear c.loop-p.p ((omega arith, omega arith), sym c.one-a.ensures.0 ∙ e ∙ c.other-b.ensures.0)

first_some : (c : Else-full) → 1 ≤ get_or c.loop-p.room c.one-a.result 0
first_some c = let n : get_or c.loop-p.room c.one-a.result 0 ≡ 0 → ⊥ = λ e. was_denied c.full.ensures c.if-full.false (inl e) in omega arith

second-some : (c : Else-full) → 1 ≤ get_or c.loop-p.room c.other-b.result 0
second-some c = let n : get_or c.loop-p.room c.other-b.result 0 ≡ 0 → ⊥ = λ e. was_denied c.full.ensures c.if-full.false (inr e) in omega arith

-- the row applies at no place up to p
more : (c : Else-full) (limit : ℕ → ℕ) → Limited limit c.args.room.now → (q : ℕ) → q < c.loop-p.p + 1 → (crowded_row c.args.number limit c.args.edges.now).applies q → ⊥
more c limit h =
    let e = left_at c.loop-p.invariant.0 h c.one-a.ensures in
    let f = left_at c.loop-p.invariant.0 h c.other-b.ensures in
    below_more _ _ (c.loop-p.invariant.1 limit h)
    (λ x. was_denied c.full.ensures c.if-full.false (⊎_elim (λ z. inl (omega arith)) (λ z. inr (omega arith)) x.1))

pub loop-p-init : goal.loop-p-init
loop-p-init c = (leaves_all _ _ c.requires.room_len, λ limit h q l a. let n : ⊥ = omega (arith, a.0) in n)

pub returns-then-full : goal.returns-then-full
returns-then-full c = λ limit h.
    let e = left_at c.loop-p.invariant.0 h c.one-a.ensures in
    let f = left_at c.loop-p.invariant.0 h c.other-b.ensures in
    let x = was_held c.full.ensures c.if-full.true in
    fails (first-place ((omega arith, omega arith), ⊎_elim (λ z. inl (omega arith)) (λ z. inr (omega arith)) x) (c.loop-p.invariant.1 limit h))

pub overflow_sub-room-in-loop-p : goal.overflow_sub-room-in-loop-p
overflow_sub-room-in-loop-p c = let w = (goal.at.overflow_sub-room-in-loop-p c).Else-full in
    omega (arith, other-left c.loop-p.room c.one-a.result c.other-b.result (apart w), second-some w)

pub loop-p-preserved : goal.loop-p-preserved
loop-p-preserved c = let w = (goal.at.loop-p-preserved c).Else-full in (
  leaves_less _ _ c.loop-p.invariant.0 (omega arith, omega arith) c.one-a.ensures c.other-b.ensures (apart w) (first_some w) (second-some w),
  more w,
)

pub returns : goal.returns
returns c = λ limit h. passes (clear_one (λ q a. c.loop-p.invariant.1 limit h q (omega (arith, a.0)) a))

pub returns-else-full : goal.returns-else-full
returns-else-full c = λ limit h. passes (clear_one (λ q a. more (goal.at.returns-else-full c).Else-full limit h q (omega (arith, a.0)) a))
