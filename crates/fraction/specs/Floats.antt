-- Exact steps on f64 values between 0 and 1: doubling, comparing with one, subtracting one, comparing with zero, dividing whole numbers.
-- Each is a law of values: `HasValue x false a c`, x is a / c. Assumes nothing.
use Rattle.std.specs.Prelude.{◌≡◌, refl, Bool, true, false, not, ◌&&◌, ℕ, ◌+◌, ◌-◌, ◌*◌, ◌^◌, ◌≤◌, ◌<◌, ltb, eqb, Float}
use Rattle.std.proofs.Common.{sym, ap, ◌∙◌, true≢false, mul-one, one-mul, mul_assoc, mul_comm, mul_left_comm, mul_right_comm, add-mul, mul-pos, mul-le-mul_right, mul-lt-mul_of_pos_right, le_of_mul-le-mul_right, lt_of_mul-lt-mul_right, lt_of_lt_of_le, zero-mul, arith, lit<, pow_pos, pow_mono, pow-add, shl_lt, lt-ltb, le-ltb, eq-eqb, ne_eqb}
use Rattle.std.proofs.Math.Decide.{dec_lt}
use Rattle.std.proofs.Math.Nat.{eq_of_mul-eq-mul_right}
use Rattle.std.specs.Float.{nan, inf, fin, binary64}
use Rattle.std.specs.Float.Ieee.{up, down, round, add, sub, div, lt, eq, ne, sum, neg, of_bits}
use Rattle.std.specs.Float.Ieee.Exact.{HasValue, round_exact}
use Rattle.std.specs.Float.Ieee.Scale.{round_same}
use Rattle.std.specs.Float.Ieee.Fits.{down_pos}

-- the float m / 2 ^ k
abbrev pub frac : ℕ → ℕ → Float
frac k m = round binary64 false m (2 ^ k)

-- a fraction that f64 holds is not changed by rounding
pub frac-value : (k m : ℕ) → k ≤ 1074 → m < 2 ^ 53 → HasValue (frac k m) false m (2 ^ k)
frac-value k m h l =
    let e : 1074 - k + k ≡ 1074 = omega arith in
    let w : m * 2 ^ 1074 ≡ m * 2 ^ (1074 - k) * 2 ^ k = rw (mul_assoc m (2 ^ (1074 - k)) (2 ^ k), ← pow-add 2 (1074 - k) k, e) in
    let s : m * 2 ^ (1074 - k) < 2 ^ (53 + (1074 - k)) = shl_lt 53 (1074 - k) l in
    let b : 53 + (1074 - k) ≤ 2098 = omega arith in
    round_exact binary64 false m (2 ^ k) m (1074 - k) (pow_pos k) l (lt_of_lt_of_le s (pow_mono b)) w

-- ---- two ways to write one size: P / D is a / c

module _ (P D a c : ℕ) (C : 0 < c) (E : 0 < D) (v : P * c ≡ a * D) where
  pub cross_lt : a < c → P < D
  cross_lt l =
      let k : a * D < c * D = mul-lt-mul_of_pos_right l E in
      lt_of_mul-lt-mul_right c (let w : P * c < D * c = omega (arith, mul_comm c D) in w)

  cross_le : c ≤ a → D ≤ P
  cross_le l =
      let k : c * D ≤ a * D = mul-le-mul_right D l in
      le_of_mul-le-mul_right (let w : D * c ≤ P * c = omega (arith, mul_comm c D) in w) C

  cross_sub : c ≤ a → (P - D) * c ≡ (a - c) * D
  cross_sub l =
      let p : P ≡ D + (P - D) = omega (arith, cross_le l) in
      let q : a ≡ c + (a - c) = omega arith in
      let x : P * c ≡ D * c + (P - D) * c = ap (λ (n : ℕ). n * c) p ∙ add-mul D (P - D) c in
      let y : a * D ≡ c * D + (a - c) * D = ap (λ (n : ℕ). n * D) q ∙ add-mul c (a - c) D in
      omega (arith, mul_comm c D)

  -- the comparison with one
  cross_one : ltb (P * 1) (1 * D) ≡ ltb a c
  cross_one = go (dec_lt a c)
    where
      go : Dec (a < c) → ltb (P * 1) (1 * D) ≡ ltb a c
      go (yes l) = rw (mul-one, one-mul, lt-ltb P D (cross_lt l), lt-ltb a c l)
      go (no l) = let k : c ≤ a = omega arith in rw (mul-one, one-mul, le-ltb P D (cross_le k), le-ltb a c k)

  -- the comparison with zero
  pub cross_none : eqb P 0 ≡ eqb a 0
  cross_none = go (dec_lt 0 a)
    where
      go : Dec (0 < a) → eqb P 0 ≡ eqb a 0
      go (yes l) =
          let k : 0 < P * c = rw v (mul-pos l E) in
          let n : P ≡ 0 → ⊥ = λ z. omega (arith, ap (λ (x : ℕ). x * c) z, zero-mul c) in
          rw (ne_eqb P 0 n, ne_eqb a 0 (λ z. omega arith))
      go (no l) =
          let z : a ≡ 0 = omega arith in
          let k : P * c ≡ 0 * c = v ∙ rw (z, zero-mul D, zero-mul c) in
          rw (eq-eqb P 0 (eq_of_mul-eq-mul_right c C P 0 k), eq-eqb a 0 z)

-- ---- the steps

pub doubled : (x : Float) (a c : ℕ) → 0 < c → HasValue x false a c → add binary64 x x ≡ round binary64 false (2 * a) c
unfolding add sum
doubled nan a c C v = absurd v
doubled (inf s) a c C v = absurd v
doubled (fin true m e) a c C v = absurd (true≢false v.0)
doubled (fin false m e) a c C v =
    let P = m * up e in
    let D = down e in
    let p : (P * D + P * D) * c ≡ P * D * c + P * D * c = add-mul (P * D) (P * D) c in
    let q : P * D * c ≡ a * D * D = mul_right_comm P D c ∙ ap (λ (n : ℕ). n * D) v.1 in
    let r : 2 * a * (D * D) ≡ 2 * (a * D * D) = mul_assoc 2 a (D * D) ∙ ap (λ (n : ℕ). 2 * n) (sym (mul_assoc a D D)) in
    round_same binary64 false (P * D + P * D) (D * D) (2 * a) c (mul-pos (down_pos e) (down_pos e)) C (omega arith)

pub under_one : (x : Float) (a c : ℕ) → 0 < c → HasValue x false a c → lt x (of_bits binary64 0x3ff0000000000000) ≡ ltb a c
unfolding lt of_bits
under_one nan a c C v = absurd v
under_one (inf s) a c C v = absurd v
under_one (fin true m e) a c C v = absurd (true≢false v.0)
under_one (fin false m e) a c C v = cross_one (m * up e) (down e) a c C (down_pos e) v.1

pub less_one :
    (x : Float) (a c : ℕ) → 0 < c → c ≤ a → HasValue x false a c
    → sub binary64 x (of_bits binary64 0x3ff0000000000000) ≡ round binary64 false (a - c) c
unfolding sub add neg sum of_bits
less_one nan a c C l v = absurd v
less_one (inf s) a c C l v = absurd v
less_one (fin true m e) a c C l v = absurd (true≢false v.0)
less_one (fin false m e) a c C l v =
    let P = m * up e in
    let D = down e in
    let t : ltb (P * 1) (1 * D) ≡ false = cross_one P D a c C (down_pos e) v.1 ∙ le-ltb a c l in
    let k : (P * 1 - 1 * D) * c ≡ (a - c) * (D * 1) = rw (mul-one P, one-mul D, mul-one D) (cross_sub P D a c C (down_pos e) v.1 l) in
    rw t (round_same binary64 false (P * 1 - 1 * D) (D * 1) (a - c) c (mul-pos (down_pos e) (lit< tt)) C k)

and_true : (b : Bool) → (b && true) ≡ b
and_true true = refl
and_true false = refl

pub not_zero : (x : Float) (a c : ℕ) → 0 < c → HasValue x false a c → ne x (of_bits binary64 0) ≡ not (eqb a 0)
unfolding ne eq of_bits
not_zero nan a c C v = absurd v
not_zero (inf s) a c C v = absurd v
not_zero (fin true m e) a c C v = absurd (true≢false v.0)
not_zero (fin false m e) a c C v =
    let t : eqb (m * up e * 1) (0 * down e) ≡ eqb a 0 = rw (mul-one, zero-mul) (cross_none (m * up e) (down e) a c C (down_pos e) v.1) in
    ap not (and_true (eqb (m * up e * 1) (0 * down e)) ∙ t)

-- whole numbers, divided
pub divided :
    (x y : Float) (a b : ℕ) → 0 < b → HasValue x false a 1 → HasValue y false b 1 → div binary64 x y ≡ round binary64 false a b
unfolding div
divided (fin true m e) y a b B v w = absurd (true≢false v.0)
divided (fin false m e) nan a b B v w = absurd w
divided (fin false m e) (inf t) a b B v w = absurd w
divided (fin false m e) (fin true n d) a b B v w = absurd (true≢false w.0)
divided (fin false m e) (fin false n d) a b B v w =
    let p : m * up e ≡ a * down e = sym (mul-one (m * up e)) ∙ v.1 in
    let q : n * up d ≡ b * down d = sym (mul-one (n * up d)) ∙ w.1 in
    let k : 0 < n * up d = rw q (mul-pos B (down_pos d)) in
    let z : n ≡ 0 → ⊥ = λ z. omega (arith, ap (λ (x : ℕ). x * up d) z, zero-mul (up d)) in
    let s : m * up e * down d * b ≡ a * (n * up d * down e) = rw (p, q) (simp (mul_assoc, mul_comm, mul_left_comm)) in
    rw (ne_eqb n 0 z)
    (round_same binary64 false (m * up e * down d) (n * up d * down e) a b (mul-pos k (down_pos e)) B s)
divided nan y a b B v w = elim v [ ]
divided (inf _) y a b B v w = elim v [ ]
