-- `adjacency::cam_entries` meets its contract. The loop's invariant: 6 applies at no entry that is passed. Assumes nothing.
use mathlib.Core.Path.{◌≡◌, sym, ap, ◌∙◌}
use mathlib.Core.Logic.{inl, inr, ⊎_elim}
use mathlib.Core.List.{List}
use Prim.Native.Nat.{ℕ, ◌+◌, ◌-◌}
use lib.ListN.{get_or}
use borrow.Author.Count.{below_more}
use Rattle.refusal.specs.Checks.{passes, fails}
use Rattle.refusal.specs.Laws.{clear_one}
use Rattle.refusal.proofs.Laws.{first-place}
use native.Mathlib.Omega.{arith}
use Rattle.adjacency.proofs.cam_entries.Goals as goal
use Rattle.adjacency.proofs.cam_entries.Goals.{then-x-eq0-via-then-x-eq0, then-x-eq0-via-else-x-eq0+then-i-x}

-- the entry at i has the number i + 1
at-place : (c : List ℕ) (i : ℕ) → get_or c (i + 1 - 1) 0 ≡ get_or c i 0
at-place c i = ap (λ k. get_or c k 0) (omega arith)

pub returns-then-x-eq0 : goal.returns-then-x-eq0
returns-then-x-eq0 c =
    elim c.then-x-eq0.branch [
      | then-x-eq0-via-then-x-eq0 w ↦ fails (first-place (omega arith, omega arith, inl (at-place c.args.cam.now c.loop-i.i ∙ w.if-x-eq0.true)) c.loop-i.invariant)
      | then-x-eq0-via-else-x-eq0+then-i-x w ↦ fails (first-place (omega arith, omega arith, inr (omega (arith, at-place c.args.cam.now c.loop-i.i, w.if-i-x.true))) c.loop-i.invariant)
    ]

pub loop-i-preserved : goal.loop-i-preserved
loop-i-preserved c =
    let e = at-place c.args.cam.now c.loop-i.i in
    below_more _ _ c.loop-i.invariant (λ a. ⊎_elim (λ z. c.if-x-eq0.false (sym e ∙ z)) (λ z. let n : ⊥ = omega (arith, e, z, c.if-i-x.false) in n) a.2)

pub returns : goal.returns
returns c = passes (clear_one (λ q a. c.loop-i.invariant q (omega (arith, a.1)) a))
