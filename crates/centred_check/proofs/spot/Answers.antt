-- `centred_check::spot` meets its contract: the loop keeps that what is left stands before none of the children passed. Assumes nothing.
use mathlib.Core.Path.{subst}
use native.Mathlib.Omega.{arith}
use Rattle.digit_code.specs.Ends.{Ends}
use Rattle.digit_code.specs.Two.{as_long, digit_at}
use Rattle.laws.specs.Tells.{was_held, was_denied}
use Rattle.centred_check.specs.Kinds.{kinds}
use Rattle.centred_check.specs.Skip.{skips_after, one-after, codes_many, skips_marks}
use Rattle.centred_check.specs.Spot.{seek_start, seek_some, seek_inside, seek-next, seek_stop, seek-last}
use Rattle.centred_check.proofs.spot.Goals as goal

pub bounds-ds-x : goal.bounds-ds-x
bounds-ds-x c = omega (arith, c.requires.x_in_bounds, as_long (kinds c.args.named).arity c.args.code.now c.requires.ds_value)

pub overflow_add-y : goal.overflow_add-y
overflow_add-y c = omega arith

pub loop-m-init : goal.loop-m-init
loop-m-init c = seek_start c.requires.x_in_bounds

pub skip-z-requires : goal.skip-z-requires
skip-z-requires c = let whole = subst (Ends 1) c.requires.ds_value c.requires.ends in
    let counts = digit_at (kinds c.args.named).arity c.args.code.now c.requires.ds_value c.args.x c.requires.x_in_bounds in
    let inside = seek_inside c.loop-m.invariant whole c.requires.x_in_bounds (omega (arith, counts)) in
    let arity = (kinds c.args.named).arity in record { ends = c.requires.ends; from_in_bounds = omega (arith, inside, as_long arity c.args.code.now c.requires.ds_value); many_in_bounds = omega (arith, seek_some c.loop-m.invariant whole c.requires.x_in_bounds (omega (arith, counts)), codes_many arity c.args.code.now c.requires.ds_value c.loop-m.y) }

pub covers-requires : goal.covers-requires
covers-requires c = let passed = skips_marks (kinds c.args.named).arity c.args.code.now c.requires.ds_value c.skip-z.ensures in
    let whole = subst (Ends 1) c.requires.ds_value c.requires.ends in
    let counts = digit_at (kinds c.args.named).arity c.args.code.now c.requires.ds_value c.args.x c.requires.x_in_bounds in
    let inside = seek_inside c.loop-m.invariant whole c.requires.x_in_bounds (omega (arith, counts)) in
    let y = skips_after c.loop-m.invariant.passed in
    let z = one-after passed inside in record { le_x = c.requires.le_x; x_lt_y = y; y_lt_z = z; z_in_bounds = passed.within; e_in_bounds = c.requires.skips.within; bound = c.requires.bound }

pub returns-then-covers : goal.returns-then-covers
returns-then-covers c = let whole = subst (Ends 1) c.requires.ds_value c.requires.ends in
    let counts = digit_at (kinds c.args.named).arity c.args.code.now c.requires.ds_value c.args.x c.requires.x_in_bounds in
    let passed = skips_marks (kinds c.args.named).arity c.args.code.now c.requires.ds_value c.skip-z.ensures in
    let inside = seek_inside c.loop-m.invariant whole c.requires.x_in_bounds (omega (arith, counts)) in
    seek_stop c.loop-m.invariant whole c.requires.x_in_bounds c.requires.skips (omega (arith, counts)) passed inside (was_held c.covers.ensures c.if-covers.true)

pub loop-m-preserved : goal.loop-m-preserved
loop-m-preserved c = let whole = subst (Ends 1) c.requires.ds_value c.requires.ends in
    let counts = digit_at (kinds c.args.named).arity c.args.code.now c.requires.ds_value c.args.x c.requires.x_in_bounds in
    let passed = skips_marks (kinds c.args.named).arity c.args.code.now c.requires.ds_value c.skip-z.ensures in
    let inside = seek_inside c.loop-m.invariant whole c.requires.x_in_bounds (omega (arith, counts)) in
    seek-next c.loop-m.invariant whole c.requires.x_in_bounds (omega (arith, counts)) passed inside (was_denied c.covers.ensures c.if-covers.false)

pub returns : goal.returns
returns c = let whole = subst (Ends 1) c.requires.ds_value c.requires.ends in
    let counts = digit_at (kinds c.args.named).arity c.args.code.now c.requires.ds_value c.args.x c.requires.x_in_bounds in
    seek-last c.loop-m.invariant whole c.requires.x_in_bounds c.requires.skips (omega (arith, counts))
