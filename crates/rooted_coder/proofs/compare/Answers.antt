-- `rooted_coder::compare` meets its contract: the loop keeps that the marks passed agree. Assumes nothing.
use mathlib.Core.Path.{◌≡◌, sym, ◌∙◌}
use mathlib.Core.List.{List}
use Prim.Native.Nat.{ℕ, ◌<◌}
use native.Mathlib.Omega.{arith}
use lib.ListN.{length, get_or, length-map}
use Rattle.digit_code.specs.Comparing.{none_yet, second_ends, first_ends, both_end, smaller, larger, one_more}
use Rattle.skeleton.specs.Numbered.{get_or-map_in}
use Rattle.rooted_coder.specs.Ordered.{mark_of, marked}
use Rattle.rooted_coder.proofs.compare.Goals as goal

-- there are as many marks as vertices
as_many : (m s : List ℕ) → length (marked m s) ≡ length s
as_many m s = length-map s (mark_of m)

-- x is the mark at i
mark_at : (m s : List ℕ) (i x : ℕ) → i < length s → x ≡ mark_of m (get_or s i 0) → (i < length (marked m s)) × (get_or (marked m s) i 0 ≡ x)
mark_at m s i x h e = (omega (arith, as_many m s), get_or-map_in (mark_of m) s i 0 0 h ∙ sym e)

pub loop-i-init : goal.loop-i-init
loop-i-init c = none_yet _ _

pub returns-then-b-i : goal.returns-then-b-i
returns-then-b-i c = let s = c.args in
    second_ends c.loop-i.invariant (omega (arith, as_many s.marks.now s.a.now)) (omega (arith, as_many s.marks.now s.b.now))

pub returns-then-x-y : goal.returns-then-x-y
returns-then-x-y c = let s = c.args in
    let (h, x) = mark_at s.marks.now s.a.now c.loop-i.i c.mark-x.result c.loop-i-test.true c.mark-x.ensures in
    let (k, y) = mark_at s.marks.now s.b.now c.loop-i.i c.mark-y.result c.if-b-i.false c.mark-y.ensures in
    smaller c.loop-i.invariant h k (omega (arith, x, y, c.if-x-y.true))

pub returns-then-y-x : goal.returns-then-y-x
returns-then-y-x c = let s = c.args in
    let (h, x) = mark_at s.marks.now s.a.now c.loop-i.i c.mark-x.result c.loop-i-test.true c.mark-x.ensures in
    let (k, y) = mark_at s.marks.now s.b.now c.loop-i.i c.mark-y.result c.if-b-i.false c.mark-y.ensures in
    larger c.loop-i.invariant h k (omega (arith, x, y, c.if-y-x.true))

pub loop-i-preserved : goal.loop-i-preserved
loop-i-preserved c = let s = c.args in
    let (h, x) = mark_at s.marks.now s.a.now c.loop-i.i c.mark-x.result c.loop-i-test.true c.mark-x.ensures in
    let (k, y) = mark_at s.marks.now s.b.now c.loop-i.i c.mark-y.result c.if-b-i.false c.mark-y.ensures in
    one_more c.loop-i.invariant h k (omega (arith, x, y, c.if-y-x.false)) (omega (arith, x, y, c.if-x-y.false))

pub returns-then-a-b : goal.returns-then-a-b
returns-then-a-b c = let s = c.args in
    let all : length s.a.now ≡ c.loop-i.i = omega arith in
    rw all (first_ends c.loop-i.invariant (omega (arith, as_many s.marks.now s.a.now)) (omega (arith, as_many s.marks.now s.b.now)))

pub returns : goal.returns
returns c = let s = c.args in
    let all : length s.a.now ≡ c.loop-i.i = omega arith in
    rw all (both_end c.loop-i.invariant (omega (arith, as_many s.marks.now s.a.now)) (omega (arith, as_many s.marks.now s.b.now)))
