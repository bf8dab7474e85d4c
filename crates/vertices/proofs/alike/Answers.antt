-- `vertices::alike` meets its contract. Assumes nothing.
use native.Mathlib.Omega.{arith}
use Rattle.std.proofs.lemmas.Bool.{eq-eqb}
use Rattle.laws.specs.Equal.{equal_told}
use Rattle.vertices.proofs.Telling.{parent-before, parents_differ, lengths_differ, marks_differ, others_decide, leaves_alike}
use Rattle.vertices.proofs.alike.Goals as goal
use Rattle.vertices.proofs.alike.Goals.{then-a-u-via-then-a-u, then-a-u-via-else-a-u+then-code-u}

pub overflow_sub-p-2 : goal.overflow_sub-p-2
overflow_sub-p-2 c = (parent-before c.requires.above c.args.u c.requires.le_u.0 (omega (arith, c.requires.le_u))).0

pub bounds-known-p : goal.bounds-known-p
bounds-known-p c = omega (arith, parent-before c.requires.above c.args.u c.requires.le_u.0 (omega (arith, c.requires.le_u)), c.requires.le_u, c.requires.v_in_bounds)

pub overflow_sub-q-2 : goal.overflow_sub-q-2
overflow_sub-q-2 c = (parent-before c.requires.above c.args.v (omega (arith, c.requires.le_u)) c.requires.le_u.2).0

pub bounds-known-q : goal.bounds-known-q
bounds-known-q c = omega (arith, parent-before c.requires.above c.args.v (omega (arith, c.requires.le_u)) c.requires.le_u.2, c.requires.le_u, c.requires.v_in_bounds)

pub returns-then-known-p : goal.returns-then-known-p
returns-then-known-p c = parents_differ c.requires.above c.args.known.now c.requires.known c.requires.le_u.0 c.requires.le_u.1 c.requires.le_u.2 c.if-known-p.true

pub returns-then-a-u : goal.returns-then-a-u
returns-then-a-u c =
    elim c.then-a-u.branch [
      | then-a-u-via-then-a-u w ↦ lengths_differ c.requires.above c.args.known.now c.requires.known c.requires.le_u.0 c.requires.le_u.1 c.requires.le_u.2 w.if-a-u.true
      | then-a-u-via-else-a-u+then-code-u w ↦ marks_differ c.requires.above c.args.known.now c.requires.known c.requires.le_u.0 c.requires.le_u.1 c.requires.le_u.2 c.if-known-p.false w.if-code-u.true
    ]

pub returns-then-a-u-2 : goal.returns-then-a-u-2
returns-then-a-u-2 c = rw (eq-eqb _ _ c.if-a-u-2.true) (leaves_alike c.requires.above c.args.known.now c.requires.known c.requires.le_u.0 c.requires.le_u.1 c.requires.le_u.2 c.if-known-p.false c.if-code-u.false c.if-a-u.false c.if-a-u-2.true)

pub slice_bounds-eq-end : goal.slice_bounds-eq-end
slice_bounds-eq-end c = (c.requires.known.ending c.args.u (omega arith) (omega (arith, c.requires.le_u))).within

pub slice_bounds-eq-end-else-a-u-2 : goal.slice_bounds-eq-end-else-a-u-2
slice_bounds-eq-end-else-a-u-2 c = (c.requires.known.ending c.args.v (omega arith) c.requires.le_u.2).within

pub returns-else-a-u-2 : goal.returns-else-a-u-2
returns-else-a-u-2 c = others_decide c.requires.above c.args.known.now c.requires.known c.requires.le_u.0 c.requires.le_u.1 c.requires.le_u.2 c.if-known-p.false c.if-code-u.false (equal_told c.eq.result c.eq.ensures)
