-- `centre::middle` meets its contract. The loop's invariant: one has gone half as far as the other. Assumes nothing.
use native.Mathlib.Omega.{arith}
use Rattle.centre.proofs.Halves.{begin, slow_in, fast_in, next_in, one, two, again, less}
use Rattle.centre.proofs.middle.Goals as goal

pub loop-fast-init : goal.loop-fast-init
loop-fast-init c = λ p t. rw c.wide-slow.ensures.0 (begin t)

pub bounds-up-fast : goal.bounds-up-fast
bounds-up-fast c = omega (arith, fast_in c.requires.trail (c.loop-fast.invariant _ c.requires.trail))

pub returns-then-a-fast : goal.returns-then-a-fast
returns-then-a-fast c = λ p t. one t (c.loop-fast.invariant p t) (rw c.wide-a.ensures.0 at c.if-a-fast.true)

pub bounds-up-slow : goal.bounds-up-slow
bounds-up-slow c = omega (arith, slow_in c.requires.trail (c.loop-fast.invariant _ c.requires.trail))

pub bounds-up-a : goal.bounds-up-a
bounds-up-a c = omega (arith, c.wide-a.ensures.0, next_in c.requires.trail (c.loop-fast.invariant _ c.requires.trail) (rw c.wide-a.ensures.0 at c.if-a-fast.false))

pub returns-then-b-a : goal.returns-then-b-a
returns-then-b-a c = let n = rw c.wide-a.ensures.0 at c.if-a-fast.false in
    let e = rw (c.wide-b.ensures.0, c.wide-a.ensures.0) at c.if-b-a.true in
    λ p t. rw c.wide-next.ensures.0 (two t (c.loop-fast.invariant p t) n e)

pub loop-fast-smaller : goal.loop-fast-smaller
loop-fast-smaller c = let n = rw c.wide-a.ensures.0 at c.if-a-fast.false in
    let m = rw (c.wide-b.ensures.0, c.wide-a.ensures.0) at c.if-b-a.false in
    rw (c.wide-b.ensures.0, c.wide-a.ensures.0) (less c.requires.trail (c.loop-fast.invariant _ c.requires.trail) n m)

pub loop-fast-preserved : goal.loop-fast-preserved
loop-fast-preserved c = let n = rw c.wide-a.ensures.0 at c.if-a-fast.false in
    let m = rw (c.wide-b.ensures.0, c.wide-a.ensures.0) at c.if-b-a.false in
    λ p t. rw (c.wide-next.ensures.0, c.wide-b.ensures.0, c.wide-a.ensures.0) (again t (c.loop-fast.invariant p t) n m)
