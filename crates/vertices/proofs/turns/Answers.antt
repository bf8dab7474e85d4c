-- `vertices::turns` meets its contract. Assumes nothing.
use native.Mathlib.Omega.{arith}
use Rattle.std.proofs.lemmas.Bool.{ne_eqb}
use Rattle.skeleton.specs.document.AtomMarks.{atoms}
use Rattle.skeleton.specs.General.{decode-code}
use Rattle.vertices.proofs.Telling.{no_child, halves_decide}
use Rattle.vertices.proofs.turns.Goals as goal

pub returns-else-edges-v-eq1 : goal.returns-else-edges-v-eq1
returns-else-edges-v-eq1 c = rw (ne_eqb _ _ c.if-edges-v-eq1.false) (no_child c.requires.above c.requires.le_v.0 c.requires.le_v.1 c.if-edges-v-eq1.false)

pub halves-requires : goal.halves-requires
halves-requires c = record { ends = ((decode-code atoms _).0 c.requires.above.right).0; le_v = c.requires.le_v.0; ending = c.requires.known.ending c.args.v (omega arith) c.requires.le_v.1 }

pub returns-then-edges-v-eq1 : goal.returns-then-edges-v-eq1
returns-then-edges-v-eq1 c = halves_decide c.requires.above c.requires.le_v.0 c.requires.le_v.1 c.if-edges-v-eq1.true c.halves.ensures
