-- `centre::walk` meets its contract. The loop's invariant: e are found, and the neighbours of the first h. Assumes nothing.
use mathlib.Core.Path.{refl}
use Prim.Native.Nat.{ℕ}
use native.Mathlib.Numerals.{add-one}
use native.Mathlib.Omega.{arith}
use lib.ListN.{replicate}
use Rattle.limits.specs.document.Limits.{size}
use Rattle.centre.proofs.Walked.{ground, start, next_one, finish, most_found, one_waits, next_in, next_few, in_some}
use Rattle.centre.proofs.walk.Goals as goal

pub loop-e-init : goal.loop-e-init
loop-e-init c = λ E g t. rw c.wide.ensures.0 (start g c.requires.starts (replicate {A = ℕ} size 0) refl)

pub bounds-o-h : goal.bounds-o-h
bounds-o-h c = let l = c.loop-e in
    omega (arith, one_waits c.requires.held c.requires.starts l.invariant (omega arith), most_found c.requires.held c.requires.starts l.invariant, c.requires.held.skeleton.few)

pub neighbours-requires : goal.neighbours-requires
neighbours-requires c = let l = c.loop-e in
    let i = next_in c.requires.held c.requires.starts l.invariant (omega arith) in
    record {
      shaped = c.requires.held.table.shaped;
      le_v = rw c.wide-in-loop-e.ensures.0 (i.0, omega (arith, i, c.requires.held.skeleton.few), next_few c.requires.held c.requires.starts l.invariant (omega arith));
    }

pub visit-e-requires : goal.visit-e-requires
visit-e-requires c = let l = c.loop-e in rw (c.neighbours.ensures, c.wide-in-loop-e.ensures.0) (in_some c.requires.held c.requires.starts l.invariant (omega arith))

pub overflow_add-h : goal.overflow_add-h
overflow_add-h c = let l = c.loop-e in
    omega (arith, one_waits c.requires.held c.requires.starts l.invariant (omega arith), most_found c.requires.held c.requires.starts l.invariant, c.requires.held.skeleton.few)

pub loop-e-smaller : goal.loop-e-smaller
loop-e-smaller c = let l = c.loop-e in
    omega (arith, one_waits c.requires.held c.requires.starts l.invariant (omega arith), most_found c.requires.held c.requires.starts l.invariant)

pub loop-e-preserved : goal.loop-e-preserved
loop-e-preserved c = let l = c.loop-e in
    let few = next_few c.requires.held c.requires.starts l.invariant (omega arith) in
    let waits = one_waits c.requires.held c.requires.starts l.invariant (omega arith) in
    λ E g t.
    rw add-one
    (c.visit-e.ensures _ _ _ E g (rw (c.neighbours.ensures, c.wide-in-loop-e.ensures.0) (next_one g (l.invariant E g t) t _ refl waits few)))

pub bounds-o-e : goal.bounds-o-e
bounds-o-e c = let l = c.loop-e in
    omega (arith, most_found c.requires.held c.requires.starts l.invariant, c.requires.held.skeleton.few)

pub returns : goal.returns
returns c = let l = c.loop-e in
    λ E t k.
    let g = ground _ E _ t c.requires.starts.low c.requires.starts.high c.requires.held.skeleton.few in
    finish g (l.invariant E g k) (omega (arith, (l.invariant E g k).most))
