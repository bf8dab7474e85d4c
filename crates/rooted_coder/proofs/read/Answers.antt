-- `rooted_coder::read` meets its contract. Assumes nothing.
use mathlib.Core.Path.{sym, subst}
use mathlib.Core.List.{List}
use Prim.Native.Nat.{ℕ, ◌+◌, ◌≤◌}
use native.Mathlib.Omega.{arith}
use lib.ListN.{length, take, set}
use lib.Seq.{length-take-le}
use Rattle.laws.specs.Laying.{Mapped, mapped-none, mapped-more, mapped-all}
use Rattle.rooted_coder.specs.Ordered.{mark_of}
use Rattle.rooted_coder.proofs.read.Goals as goal

-- there is room for all
room : (n : ℕ) (s out : List ℕ) → (n ≤ length s) × (n ≤ length out) → length (take n s) ≤ length out
room n s out h = omega (arith, length-take-le n s h.0, h.1)

pub loop-i-init : goal.loop-i-init
loop-i-init c = mapped-none _ _ _ (room c.args.n c.args.s.now c.args.out.now c.requires)

pub bounds-out-i : goal.bounds-out-i
bounds-out-i c = omega (arith, c.loop-i.invariant.long, room c.args.n c.args.s.now c.args.out.now c.requires)

pub loop-i-preserved : goal.loop-i-preserved
loop-i-preserved c = subst (λ x. Mapped (mark_of c.args.marks.now) (take c.args.n c.args.s.now) c.args.out.now (set c.loop-i.out c.loop-i.i x) (c.loop-i.i + 1))
    (sym c.mark.ensures)
    (mapped-more _ _ _ (room c.args.n c.args.s.now c.args.out.now c.requires) c.loop-i.invariant c.loop-i-test.true)

pub shape_of-out : goal.shape_of-out
shape_of-out c = c.loop-i.invariant.long

pub returns : goal.returns
returns c = mapped-all _ _ _ (room c.args.n c.args.s.now c.args.out.now c.requires) c.loop-i.invariant c.loop-i-test.false
