-- `bits::digit_at` meets its contract: `digit-bytes`, at the three bytes read. Assumes nothing.
use native.Mathlib.Nat.{lt_of_le_of_lt}
use native.Mathlib.Omega.{arith}
use lib.Dec.{lit<}
use lib.Count.{leading_le}
use Rattle.bits.specs.Digit.{digit-bytes}
use borrow.Author.Rules.{rules}
use Rattle.bits.proofs.digit_at.Goals as goal

pub overflow_cast-result : goal.overflow_cast-result
overflow_cast-result c = record { fits = lt_of_le_of_lt (leading_le 32 _) (lit< tt) }

pub returns : goal.returns
returns c = let a = c.args in
    rw (c.byte-high.ensures, c.byte-middle.ensures, c.byte-low.ensures)
    (digit-bytes a.s.now a.bit (search rules) (omega (arith, c.byte-middle.ensures)) (omega (arith, c.byte-low.ensures)))
