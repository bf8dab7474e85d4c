-- `vertices::halves` meets its contract. Assumes nothing.
use native.Mathlib.Omega.{arith}
use Rattle.laws.specs.Tells.{was_held, was_denied}
use Rattle.laws.specs.Equal.{equal_told}
use Rattle.vertices.proofs.Cutting.{root_large, lengths_apart, roots_apart, first_apart, last_decide}
use Rattle.vertices.proofs.halves.Goals as goal
use Rattle.vertices.proofs.halves.Goals.{then-b-v-via-then-b-v, then-b-v-via-else-b-v+then-code-v}

pub overflow_sub-code : goal.overflow_sub-code
overflow_sub-code c = omega (arith, root_large c.requires.ends c.requires.le_v c.requires.ending)

pub returns-then-b-v : goal.returns-then-b-v
returns-then-b-v c =
    elim c.then-b-v.branch [
      | then-b-v-via-then-b-v w ↦ lengths_apart c.requires.ends c.requires.le_v c.requires.ending w.if-b-v.true
      | then-b-v-via-else-b-v+then-code-v w ↦ roots_apart c.requires.ends c.requires.le_v c.requires.ending w.if-b-v.false w.if-code-v.true
    ]

pub returns-then-eq : goal.returns-then-eq
returns-then-eq c = last_decide c.requires.ends c.requires.le_v c.requires.ending c.if-b-v.false c.if-code-v.false (was_held (equal_told c.eq.result c.eq.ensures) c.if-eq.true) (equal_told c.eq-then-eq.result c.eq-then-eq.ensures)

pub returns-else-eq : goal.returns-else-eq
returns-else-eq c = rw c.if-eq.false (first_apart c.requires.ends c.requires.le_v c.requires.ending c.if-b-v.false (was_denied (equal_told c.eq.result c.eq.ensures) c.if-eq.false))
