-- `edge_list::head` meets its contract. The loop's invariant: x has the head of v. The measure is x, since each step goes down.
-- Assumes nothing.
use mathlib.Core.Path.{◌≡◌, refl, sym, ◌∙◌}
use native.Mathlib.Omega.{arith}
use lib.ListN.{get_or}
use Rattle.edge_list.proofs.Heads.{head_step, head_own}
use Rattle.edge_list.proofs.head.Goals as goal

pub loop-x-init : goal.loop-x-init
loop-x-init c = (c.requires.1, refl)

pub bounds-up-x : goal.bounds-up-x
bounds-up-x c = omega arith

pub bounds-up-x-in-loop-x : goal.bounds-up-x-in-loop-x
bounds-up-x-in-loop-x c = omega arith

pub loop-x-smaller : goal.loop-x-smaller
loop-x-smaller c = let f = c.requires.0.falls c.loop-x.x c.loop-x.invariant.0 in
    let n : get_or c.args.up.now c.loop-x.x 0 ≡ c.loop-x.x → ⊥ = λ e. c.loop-x-test.true (c.wide.ensures.0 ∙ e) in
    omega arith

pub loop-x-preserved : goal.loop-x-preserved
loop-x-preserved c = (c.wide-x.ensures.1, rw c.wide-x.ensures.0 (head_step c.requires.0 c.loop-x.x c.loop-x.invariant.0 ∙ c.loop-x.invariant.1))

pub returns : goal.returns
returns c = let e : get_or c.args.up.now c.loop-x.x 0 ≡ c.loop-x.x = sym c.wide.ensures.0 ∙ c.loop-x-test.false in
    record { is = sym (head_own _ c.loop-x.x e) ∙ c.loop-x.invariant.1; own = e; byte = c.loop-x.invariant.0 }
