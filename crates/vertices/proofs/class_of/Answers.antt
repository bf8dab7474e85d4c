-- `vertices::class_of` meets its contract: the loop keeps that no vertex passed is like that of mark v. Assumes nothing.
use native.Mathlib.Omega.{arith}
use lib.ListN.{take}
use Rattle.laws.specs.Tells.{was_held, was_denied}
use Rattle.vertices.specs.Search.{test?}
use Rattle.vertices.proofs.Looking.{look_none, look_all, look_here, look_past}
use Rattle.vertices.proofs.class_of.Goals as goal

pub returns-then-v-eq0 : goal.returns-then-v-eq0
returns-then-v-eq0 c = look_all (test? c.args.code.now (take c.args.v c.args.known.now)) (look_none (test? c.args.code.now (take c.args.v c.args.known.now))) c.requires.v_in_bounds_2 (omega (arith, c.if-v-eq0.true))

pub turns-requires : goal.turns-requires
turns-requires c = record { known = c.requires.known; above = c.requires.above; le_v = (omega (arith, c.if-v-eq0.false), c.requires.v_in_bounds) }

pub returns-then-turns : goal.returns-then-turns
returns-then-turns c = look_here (test? c.args.code.now (take c.args.v c.args.known.now)) (look_none (test? c.args.code.now (take c.args.v c.args.known.now))) c.requires.v_in_bounds_2 (omega (arith, c.if-v-eq0.false)) (was_held c.turns.ensures c.if-turns.true)

pub loop-u-init : goal.loop-u-init
loop-u-init c = look_past (test? c.args.code.now (take c.args.v c.args.known.now)) (look_none (test? c.args.code.now (take c.args.v c.args.known.now))) c.requires.v_in_bounds_2 (omega (arith, c.if-v-eq0.false)) (was_denied c.turns.ensures c.if-turns.false)

pub alike-requires : goal.alike-requires
alike-requires c = record { known = c.requires.known; above = c.requires.above; le_u = (omega arith, omega arith, c.requires.v_in_bounds); v_in_bounds = c.requires.v_in_bounds_2 }

pub returns-then-alike : goal.returns-then-alike
returns-then-alike c = look_here (test? c.args.code.now (take c.args.v c.args.known.now)) c.loop-u.invariant c.requires.v_in_bounds_2 (omega arith) (was_held c.alike.ensures c.if-alike.true)

pub loop-u-preserved : goal.loop-u-preserved
loop-u-preserved c = look_past (test? c.args.code.now (take c.args.v c.args.known.now)) c.loop-u.invariant c.requires.v_in_bounds_2 (omega arith) (was_denied c.alike.ensures c.if-alike.false)

pub returns : goal.returns
returns c = look_all (test? c.args.code.now (take c.args.v c.args.known.now)) c.loop-u.invariant c.requires.v_in_bounds_2 (omega arith)
