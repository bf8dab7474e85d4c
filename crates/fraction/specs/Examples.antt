-- The definitions, run on document 01's own figures for fractions. Assumes nothing.
use Rattle.std.specs.Prelude.{◌≡◌, refl, true, false, [], ◌∷◌, ◌^◌, Float}
use Rattle.std.proofs.Common.{lit<, lit≤}
use Rattle.std.specs.Float.{binary64}
use Rattle.std.specs.Float.Ieee.{of_bits, fits}
use Rattle.refusal.specs.document.Table.{FirstRefusal}
use Rattle.refusal.specs.Laws.{refusal_front, was_refused}
use Rattle.limits.specs.document.Limits.{valence}
use Rattle.bits.specs.document.Bits.{bit, bits, word, fraction_bits, Zeros, bit_rows}
use Rattle.bits.specs.Examples.{refused_quarter, refused-small}
use Rattle.fraction.specs.document.Fraction.{IsFraction, NoFraction, bits_of, fraction_rows}
use Rattle.fraction.specs.Range.{refused-outside}

-- 30344/32768 = 0.926025390625, the fraction of 002's example
pub example : IsFraction (3 ∷ 2 ∷ 1 ∷ 0 ∷ 0 ∷ 1 ∷ 0 ∷ 0 ∷ []) (of_bits binary64 0x3feda20000000000)
unfolding of_bits word bit bits fits
example =
    record {
      number = 30344;
      numbers = record { carries = record { fill = []; same = refl; may = refl }; below = lit< tt };
      value = (refl, refl);
      fits_f64 = tt;
    }

-- 0.5 is 10
pub half : IsFraction (1 ∷ 0 ∷ []) (of_bits binary64 0x3fe0000000000000)
unfolding of_bits word bit bits fits
half =
    record {
      number = 4;
      numbers = record { carries = record { fill = []; same = refl; may = refl }; below = lit< tt };
      value = (refl, refl);
      fits_f64 = tt;
    }

-- 0.25 and 2^-60, refused 11 at 2
quarter : bits_of (of_bits binary64 0x3fd0000000000000) ≡ fraction_bits (2 ^ 51) false
unfolding of_bits
quarter = refl

small : bits_of (of_bits binary64 0x3c30000000000000) ≡ fraction_bits 0 true
unfolding of_bits
small = refl

pub refused_11 :
    FirstRefusal (bit_rows valence Zeros (bits_of (of_bits binary64 0x3fd0000000000000))) 11 2
    × FirstRefusal (bit_rows valence Zeros (bits_of (of_bits binary64 0x3c30000000000000))) 11 2
refused_11 = (rw quarter refused_quarter, rw small refused-small)

out_of_range : (x : Float) → NoFraction x → FirstRefusal (fraction_rows valence x) 4 0
out_of_range x o = refusal_front (bit_rows valence Zeros (bits_of x)) (was_refused (refused-outside x o) refl)

-- 1.0 and negative zero, refused 4
pub refused_4 :
    FirstRefusal (fraction_rows valence (of_bits binary64 0x3ff0000000000000)) 4 0
    × FirstRefusal (fraction_rows valence (of_bits binary64 0x8000000000000000)) 4 0
unfolding of_bits
refused_4 = (out_of_range (of_bits binary64 0x3ff0000000000000) (lit≤ tt), out_of_range (of_bits binary64 0x8000000000000000) tt)
