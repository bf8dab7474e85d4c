-- `centre::visit` meets its contract. The loop's invariant: the first of the row are found. Assumes nothing.
use mathlib.Core.Path.{◌≡◌}
use native.Mathlib.Numerals.{add-one}
use native.Mathlib.Omega.{arith}
use Prim.Native.Nat.{◌<◌, ◌≤◌}
use lib.ListN.{length}
use Rattle.limits.specs.document.Limits.{size}
use Rattle.centre.proofs.Visits.{part_none, part-all, part_inside, part_room, part-known, part_new}
use Rattle.centre.proofs.visit.Goals as goal
use Rattle.centre.proofs.visit.Goals.{After-wide-x, Then-up-x-eq0, then-up-x-eq0, else-up-x-eq0}

-- a neighbour has a place among the notes, and one that is not found yet has room among those found
noted : (c : After-wide-x) → c.wide-x.result ≤ size
noted c = let v = c.requires in
    omega (arith, c.wide-x.ensures.0, part_inside v.ground v.next c.loop-w.w-index (omega arith) (c.loop-w.invariant _ _ _ _ v.ground v.next))

listed : (c : Then-up-x-eq0) → c.loop-w.b < size
listed c = let v = c.requires in
    part_room v.ground v.next c.loop-w.w-index (omega arith) (c.loop-w.invariant _ _ _ _ v.ground v.next) (rw c.wide-x.ensures.0 at c.if-up-x-eq0.true)

pub loop-w-init : goal.loop-w-init
loop-w-init c = λ N s h E g n. part_none g n

pub bounds-up-x : goal.bounds-up-x
bounds-up-x c = omega (arith, noted (goal.at.bounds-up-x c).After-wide-x)

pub bounds-up-x-then-up-x-eq0 : goal.bounds-up-x-then-up-x-eq0
bounds-up-x-then-up-x-eq0 c = omega (arith, noted (goal.at.bounds-up-x-then-up-x-eq0 c).After-wide-x)

pub bounds-o-b : goal.bounds-o-b
bounds-o-b c = listed (goal.at.bounds-o-b c).Then-up-x-eq0

pub overflow_add-b : goal.overflow_add-b
overflow_add-b c = omega (arith, listed (goal.at.overflow_add-b c).Then-up-x-eq0)

pub loop-w-preserved : goal.loop-w-preserved
loop-w-preserved c = λ N s h E g n. elim c.if-up-x-eq0.branch [
  | then-up-x-eq0 w ↦ rw (w.o-is, w.up-is, w.b-is, c.wide-x.ensures.0) (simp add-one (part_new g n c.loop-w.w-index (omega arith) (c.loop-w.invariant N s h E g n) (rw c.wide-x.ensures.0 at w.if-up-x-eq0.true)))
  | else-up-x-eq0 w ↦ rw (w.o-is, w.up-is, w.b-is, add-one) (part-known g n c.loop-w.w-index (omega arith) (c.loop-w.invariant N s h E g n) (rw c.wide-x.ensures.0 at w.if-up-x-eq0.false))
]

pub returns : goal.returns
returns c = let e : c.loop-w.w-index ≡ length c.args.row.now = omega arith in
    λ N s h E g n. part-all g n (rw e at (c.loop-w.invariant N s h E g n))
