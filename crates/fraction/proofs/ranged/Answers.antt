-- `fraction::ranged` meets its contract, by `Range`. Assumes nothing.
use mathlib.Core.Path.{sym, subst}
use lib.Dec.{T}
use lib.Ieee.{binary64, fits}
use Rattle.fraction.specs.Range.{refused-outside, passed_inside, outside_nan, no_nan, outside_sign, outside_large, inside}
use Rattle.fraction.proofs.ranged.Goals as goal

pub returns-then-x : goal.returns-then-x
returns-then-x c = let x = c.args.x in refused-outside x (outside_nan x c.if-x.true)

pub float_to_bits-x : goal.float_to_bits-x
float_to_bits-x c = no_nan c.args.x c.if-x.false

pub returns-then-x-ge9223372036854775808 : goal.returns-then-x-ge9223372036854775808
returns-then-x-ge9223372036854775808 c = let held : T (fits binary64 c.args.x) = subst T (sym c.well_formed.0.1) tt in
    let x = c.args.x in refused-outside x (outside_sign x (held) c.if-x-ge9223372036854775808.true)

pub returns-then-x-2 : goal.returns-then-x-2
returns-then-x-2 c = let x = c.args.x in passed_inside x (inside x c.if-x-ge9223372036854775808.false c.if-x-2.true)

pub returns : goal.returns
returns c = let x = c.args.x in refused-outside x (outside_large x c.if-x-2.false)
