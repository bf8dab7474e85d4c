-- `bits::digit_in` meets its contract: `digit-word`. Assumes nothing.
use native.Mathlib.Nat.{lt_of_le_of_lt}
use lib.Dec.{lit<}
use lib.Count.{leading_le}
use Rattle.bits.specs.Digit.{digit-word}
use Rattle.bits.proofs.digit_in.Goals as goal

pub overflow_cast-result : goal.overflow_cast-result
overflow_cast-result c = record { fits = lt_of_le_of_lt (leading_le 64 _) (lit< tt) }

pub returns : goal.returns
returns c = digit-word c.args.x c.args.len c.args.bit c.requires.0 c.requires.1
