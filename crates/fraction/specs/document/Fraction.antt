-- Document 01, "Bit-tuple": "Fraction form: a binary point before the first bit, N <= 27, an f64 that is exactly that value; it is read
-- without N." Then row 4 and the bits that a fraction is read as.
--
-- `HasValue x s a c` of lib.Ieee.Exact: x is finite, has the sign s and is a / c in size; `num x / den x` is that size. Assumes nothing.
use Rattle.std.specs.Prelude.{◌≡◌, Bool, true, false, not, List, ◌∷◌, ℕ, ◌-◌, ◌*◌, ◌/◌, ◌%◌, ◌^◌, ◌≤◌, T, eqb, length}
use lib.Ieee.{Float, nan, inf, fin, binary64, fits, up, down}
use Rattle.std.specs.Float.Ieee.Exact.{HasValue}
use Rattle.std.specs.Float.Ieee.Positive.{num, den}
use Rattle.refusal.specs.document.Table.{Row}
use Rattle.bits.specs.document.Bits.{fraction_bits, Zeros, bit_rows}
use Rattle.bits.specs.document.Written.{Numbers}

-- x is the fraction of c: the whole number of c, with the binary point before its first bit
pub record IsFraction (c : List ℕ) (x : Float) : Type 0 where
  pub number : ℕ
  pub numbers : Numbers c number
  pub value : HasValue x false number (2 ^ (2 * length c - 1))
  pub fits_f64 : T (fits binary64 x)

-- "a fraction is NaN, negative (negative zero too) or 1 and above"
abbrev pub NoFraction : Float → Type 0
NoFraction nan = Unit {0}
NoFraction (inf s) = Unit {0}
NoFraction (fin true m e) = Unit {0}
NoFraction (fin false m e) = down e ≤ m * up e

-- 4: a fraction outside its form's range
abbrev pub row4_fraction : Float → Row
row4_fraction x = record { number = 4; applies = λ p. (p ≡ 0) × NoFraction x }

-- the first 53 bits behind the binary point, as a whole number
abbrev pub first53 : Float → ℕ
first53 x = num x * 2 ^ 53 / den x

-- whether "a rest other than zero" stands behind them
abbrev pub rest53 : Float → Bool
rest53 x = not (eqb (num x * 2 ^ 53 % den x) 0)

-- the bits that a fraction is read as
abbrev pub bits_of : Float → List Bool
bits_of x = fraction_bits (first53 x) (rest53 x)

-- what is refused of a fraction
abbrev pub fraction_rows : ℕ → Float → List Row
fraction_rows R x = row4_fraction x ∷ bit_rows R Zeros (bits_of x)
