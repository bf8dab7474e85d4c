-- The fraction of a code is its whole number over a power of two, and the division loses nothing. Assumes nothing.
use Rattle.std.specs.Prelude.{◌≡◌, List, ℕ, ◌-◌, ◌*◌, ◌%◌, ◌^◌, ◌≤◌, ◌<◌, pos, T}
use Rattle.std.proofs.Common.{◌∙◌, one-mul, lt_of_lt_of_le, le_of_lt, arith, lit<, pow_pos, pow_mono, shl_exact}
use Rattle.std.proofs.Math.Bool.{false}
use Rattle.std.proofs.Math.Dec.{le→leb}
use Rattle.std.proofs.Math.ListN.{length}
use Rattle.std.specs.Float.Ieee.{binary64, round, div, of_int, in_float}
use Rattle.std.specs.Float.Ieee.Back.{round_whole}
use Rattle.std.specs.Float.Ieee.Fits.{div-fits}
use Rattle.limits.specs.document.Limits.{fraction_size}
use Rattle.bits.specs.Written.{Coded}
use Rattle.bits.specs.document.Written.{Numbers}
use Rattle.fraction.specs.document.Fraction.{IsFraction}
use Rattle.fraction.specs.Floats.{frac-value, divided}

module _ {R : ℕ} {c : List ℕ} (w : Coded R fraction_size c) where
  pub power : 1 * 2 ^ (2 * length c - 1) % 2 ^ 64 ≡ 2 ^ (2 * length c - 1)
  power = shl_exact {a = 1} 1 (2 * length c - 1) 64 (lit< tt) (omega (arith, w.size)) ∙ one-mul (2 ^ (2 * length c - 1))

  short : 2 * length c - 1 ≤ 53
  short = omega (arith, w.size)

  pub power_fits : T (in_float binary64 (pos (2 ^ (2 * length c - 1))))
  unfolding in_float
  power_fits = le→leb (2 ^ (2 * length c - 1)) (2 ^ 53) (pow_mono short)

  module _ {x : ℕ} (n : Numbers c x) where
    below : x < 2 ^ 53
    below = lt_of_lt_of_le n.below (pow_mono short)

    pub number_fits : T (in_float binary64 (pos x))
    unfolding in_float
    number_fits = le→leb x (2 ^ 53) (le_of_lt below)

    pub written : IsFraction c (div binary64 (of_int binary64 (pos x)) (of_int binary64 (pos (2 ^ (2 * length c - 1)))))
    unfolding of_int
    written =
        let p = 2 ^ (2 * length c - 1) in
        let d = divided (round binary64 false x 1) (round binary64 false p 1) x p (pow_pos (2 * length c - 1))
        (round_whole binary64 false x (le_of_lt below)) (round_whole binary64 false p (pow_mono short)) in
        record {
          number = x;
          numbers = n;
          value = rw d (frac-value (2 * length c - 1) x (omega (arith, short)) below);
          fits_f64 = div-fits binary64 (round binary64 false x 1) (round binary64 false p 1);
        }
