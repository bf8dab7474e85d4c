-- `centred_check::skip` meets its contract: the loop keeps how many places are open. Assumes nothing.
use Prim.Native.Nat.{◌<◌}
use native.Mathlib.Omega.{arith}
use lib.ListN.{length}
use Rattle.digit_code.specs.document.Code.{plain}
use Rattle.digit_code.specs.Digits.{digits}
use Rattle.digit_code.specs.Ends.{Ends, plain_ends}
use Rattle.centred_check.specs.Skip.{skip_start, skip_inside, skip_few, skip-next, skip-last}
use Rattle.centred_check.proofs.skip.Goals as goal

pub loop-open-init : goal.loop-open-init
loop-open-init c = skip_start c.requires.from_in_bounds c.requires.many_in_bounds

pub overflow_sub-open : goal.overflow_sub-open
overflow_sub-open c = omega arith

pub bounds-ds-i : goal.bounds-ds-i
bounds-ds-i c = let inside : c.loop-open.i < length c.args.ds.now = skip_inside c.loop-open.invariant (omega arith) in
    inside

pub overflow_cast-open : goal.overflow_cast-open
overflow_cast-open c = omega (arith, c.type_inv.ds c.loop-open.i)

pub overflow_add-open : goal.overflow_add-open
overflow_add-open c = let whole : Ends 1 (digits plain c.args.ds.now) = plain_ends 1 c.args.ds.now c.requires.ends in
    omega (arith, skip_few c.loop-open.invariant (whole) (omega arith))

pub overflow_add-i : goal.overflow_add-i
overflow_add-i c = let inside : c.loop-open.i < length c.args.ds.now = skip_inside c.loop-open.invariant (omega arith) in
    omega (arith, inside)

pub loop-open-smaller : goal.loop-open-smaller
loop-open-smaller c = let inside : c.loop-open.i < length c.args.ds.now = skip_inside c.loop-open.invariant (omega arith) in
    omega (arith, inside)

pub loop-open-preserved : goal.loop-open-preserved
loop-open-preserved c = let whole : Ends 1 (digits plain c.args.ds.now) = plain_ends 1 c.args.ds.now c.requires.ends in
    skip-next c.loop-open.invariant (whole) (omega arith)

pub returns : goal.returns
returns c = skip-last c.loop-open.invariant (omega arith)
