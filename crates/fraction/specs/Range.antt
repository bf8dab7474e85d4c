-- Row 4 of a fraction as the code tests it: a NaN differs from itself, a sign is the highest bit of the pattern, and what is left is
-- compared with one. Assumes nothing.
use Rattle.std.specs.Prelude.{Ok, Err}
use Rattle.std.specs.Prelude.{◌≡◌, refl, true, false, not, [], ◌∷◌, ℕ, zero, suc, ◌*◌, ◌^◌, ◌≤◌, ◌<◌, ℤ, T, Float}
use Rattle.std.proofs.Common.{sym, ◌∙◌, subst, true≢false, mul-one, one-mul, arith, ltb-true, ltb-false}
use Rattle.std.proofs.lemmas.Bool.{false≢true}
use Rattle.std.specs.Float.{nan, inf, fin, binary64}
use Rattle.std.specs.Float.Ieee.{up, down, lt, ne, of_bits, to_bits, fits, is_nan}
use Rattle.std.specs.Float.Ieee.Bits.{to_bits-lt}
use Rattle.std.specs.Float.Ieee.Compare.{differs_from_itself, nan_differs}
use Rattle.refusal.specs.Checks.{Answers, passes, fails}
use Rattle.refusal.specs.Laws.{clear_one}
use Rattle.refusal.proofs.Laws.{first-place}
use Rattle.fraction.specs.document.Fraction.{NoFraction, row4_fraction}

pub refused-outside : (x : Float) → NoFraction x → Answers (row4_fraction x ∷ []) (Err (record { row = 4; place = 0 }))
refused-outside x o = fails (first-place {r = row4_fraction x} (refl, o) (λ q l a. omega arith))

pub passed_inside : (x : Float) → (NoFraction x → ⊥) → Answers (row4_fraction x ∷ []) (Ok tt)
passed_inside x n = passes (clear_one {r = row4_fraction x} (λ p a. n a.1))

pub outside_nan : (x : Float) → ne x x ≡ true → NoFraction x
outside_nan x e = rw (differs_from_itself x (subst T (sym e) tt)) tt

pub no_nan : (x : Float) → ne x x ≡ false → T (not (is_nan x))
unfolding is_nan
no_nan nan e = absurd (true≢false (sym nan_differs ∙ e))
no_nan (inf s) e = tt
no_nan (fin s m e') e = tt

-- the highest bit is the sign
negative_fits : (m : ℕ) (e : ℤ) → T (fits binary64 (fin false m e)) → T (fits binary64 (fin true m e))
unfolding fits
negative_fits zero e t = t
negative_fits (suc m) e t = t

sign_clear : (m : ℕ) (e : ℤ) → T (fits binary64 (fin false m e)) → to_bits binary64 (fin false m e) < 2 ^ 63
unfolding to_bits
sign_clear m e t = omega (arith, to_bits-lt binary64 (fin true m e) (negative_fits m e t))

pub outside_sign : (x : Float) → T (fits binary64 x) → 2 ^ 63 ≤ to_bits binary64 x → NoFraction x
outside_sign nan t h = tt
outside_sign (inf s) t h = tt
outside_sign (fin true m e) t h = tt
outside_sign (fin false m e) t h = absurd (let n : ⊥ = omega (arith, sign_clear m e t) in n)

-- without a sign, the comparison with one decides
pub outside_large : (x : Float) → lt x (of_bits binary64 0x3ff0000000000000) ≡ false → NoFraction x
unfolding lt of_bits
outside_large nan e = tt
outside_large (inf s) e = tt
outside_large (fin true m e') e = tt
outside_large (fin false m e') e = rw (mul-one, one-mul) at (ltb-false (m * up e' * 1) (1 * down e') e)

pub inside : (x : Float) → to_bits binary64 x < 2 ^ 63 → lt x (of_bits binary64 0x3ff0000000000000) ≡ true → NoFraction x → ⊥
unfolding lt of_bits to_bits
inside nan h e o = false≢true e
inside (inf true) h e o = omega arith
inside (inf false) h e o = false≢true e
inside (fin true m e') h e o = omega arith
inside (fin false m e') h e o = omega (arith, mul-one (m * up e'), one-mul (down e'), ltb-true (m * up e' * 1) (1 * down e') e)
