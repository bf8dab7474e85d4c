-- "the reader doubles the f64, compares with one and subtracts, each step exact, to draw out up to 53 bits": one step, the steps in a
-- row, where they begin and what they end with. Assumes nothing.
use Rattle.std.specs.Prelude.{◌≡◌, refl, Bool, true, false, not, ◌&&◌, ℕ, zero, suc, ◌+◌, ◌-◌, ◌*◌, ◌/◌, ◌%◌, ◌^◌, ◌≤◌, ◌<◌, pos, negsuc, T, leb, ltb, eqb, Float}
use Rattle.std.proofs.Common.{sym, ap, ◌∙◌, mul-one, zero-mul, mul_assoc, mul_comm, mul_right_comm, add-mul, mul-pos, zero-lt-suc, pow-suc, mod-eq_of_lt, mod-lt, div-le_self, div-add-mod', lt_of_lt_of_le, lt_of_le_of_lt, not-le_of_lt, one-add, arith, ltb→lt, leb→le, pow_pos, pow_mono, pow-add, shl_lt, shr-shr, ltb-true, ltb-false}
use Rattle.std.proofs.Math.Decide.{dec_le}
use Rattle.std.proofs.Math.Nat.{div-eq_of_lt, mod-le, mul-div-mul_right}
use Rattle.std.proofs.Math.Pow.{pow-lt, field, mod-mod-pow, high, low}
use Rattle.std.specs.Float.{nan, inf, fin, binary64}
use Rattle.std.specs.Float.Ieee.{up, down, add, sub, lt, ne, of_bits, fits}
use Rattle.std.specs.Float.Ieee.Exact.{HasValue}
use Rattle.std.specs.Float.Ieee.Scale.{round_same}
use Rattle.std.specs.Float.Ieee.Fits.{and_l, and_r}
use Rattle.std.specs.Float.Ieee.Positive.{num, den, den_pos, value→cross}
use Rattle.fraction.specs.document.Fraction.{NoFraction, first53, rest53}
use Rattle.fraction.specs.Floats.{frac-value, doubled, under_one, less_one, not_zero, cross_none}

-- ---- one step

-- of x = m / 2 ^ (k + 1), the first bit behind the point, and what is left of its double
pub record Stepped (bit : ℕ) (rest : Float) (k m : ℕ) : Type 0 where
  pub digit : bit ≡ m / 2 ^ k
  pub left : HasValue rest false (m % 2 ^ k) (2 ^ k)

pub record Next (x : Float) (bit : ℕ) (rest : Float) : Type 0 where
  pub a_bit : bit ≤ 1
  pub step : (k m : ℕ) → suc k ≤ 1074 → m < 2 ^ 53 → m < 2 ^ suc k → HasValue x false m (2 ^ suc k) → Stepped bit rest k m

module _ (x : Float) (k m : ℕ) (h : suc k ≤ 1074) (s : m < 2 ^ 53) (b : m < 2 ^ suc k) (v : HasValue x false m (2 ^ suc k)) where
  twice : HasValue (add binary64 x x) false m (2 ^ k)
  twice =
      let e : 2 * m * 2 ^ k ≡ m * 2 ^ suc k = rw (pow-suc, mul_comm 2 m, mul_assoc m 2 (2 ^ k), mul_comm 2 (2 ^ k)) in
      rw (doubled x m (2 ^ suc k) (pow_pos (suc k)) v, round_same binary64 false (2 * m) (2 ^ suc k) m (2 ^ k) (pow_pos (suc k)) (pow_pos k) e)
      (frac-value k m (omega arith) s)

  low_arm : lt (add binary64 x x) (of_bits binary64 0x3ff0000000000000) ≡ true → Stepped 0 (add binary64 x x) k m
  low_arm t =
      let l : m < 2 ^ k = ltb-true m (2 ^ k) (sym (under_one (add binary64 x x) m (2 ^ k) (pow_pos k) twice) ∙ t) in
      record { digit = sym (div-eq_of_lt l); left = rw (mod-eq_of_lt l) twice }

  high_arm :
      lt (add binary64 x x) (of_bits binary64 0x3ff0000000000000) ≡ false
      → Stepped 1 (sub binary64 (add binary64 x x) (of_bits binary64 0x3ff0000000000000)) k m
  high_arm t =
      let l : 2 ^ k ≤ m = ltb-false m (2 ^ k) (sym (under_one (add binary64 x x) m (2 ^ k) (pow_pos k) twice) ∙ t) in
      let p : 2 ^ suc k ≡ 2 ^ k * 2 = pow-suc 2 k in
      let r : m - 2 ^ k < 2 ^ k = omega arith in
      let z : m ≡ 1 * 2 ^ k + (m - 2 ^ k) = omega arith in
      let q : m / 2 ^ k ≡ 1 = ap (λ (n : ℕ). n / 2 ^ k) z ∙ high 1 k r in
      let w : m % 2 ^ k ≡ m - 2 ^ k = ap (λ (n : ℕ). n % 2 ^ k) z ∙ low 1 k r in
      record {
        digit = sym q;
        left = rw (w, less_one (add binary64 x x) m (2 ^ k) (pow_pos k) l twice) (frac-value k (m - 2 ^ k) (omega arith) (omega arith));
      }

pub next_low : (x : Float) → lt (add binary64 x x) (of_bits binary64 0x3ff0000000000000) ≡ true → Next x 0 (add binary64 x x)
next_low x t = record { a_bit = omega arith; step = λ k m h s b v. low_arm x k m h s b v t }

pub next_high :
    (x : Float) → lt (add binary64 x x) (of_bits binary64 0x3ff0000000000000) ≡ false
    → Next x 1 (sub binary64 (add binary64 x x) (of_bits binary64 0x3ff0000000000000))
next_high x t = record { a_bit = omega arith; step = λ k m h s b v. high_arm x k m h s b v t }

-- ---- a float between 0 and 1 as a whole number over a power of two, 53 places at least

pub record Places (x : Float) : Type 0 where
  pub more : ℕ
  pub size : ℕ
  pub deep : 53 + more ≤ 1074
  pub small : size < 2 ^ 53
  pub value : HasValue x false size (2 ^ (53 + more))

-- what `fits` says of a number below one
short : (m k : ℕ) → T (fits binary64 (fin false (suc m) (negsuc k))) → (suc m < 2 ^ 53) × (suc k ≤ 1074)
unfolding fits
short m k t =
    let o = eqb (suc m % 2) 1 in
    let l = ltb (suc m) (2 ^ 53) in
    let d = leb (2 ^ suc k) (2 ^ 1074) in
    let a : T (o && l && d) = and_l (o && l && d) (ltb (suc m * 1) (2 ^ 1024 * 2 ^ suc k)) t in
    let b : 2 ^ suc k ≤ 2 ^ 1074 = leb→le (2 ^ suc k) (2 ^ 1074) (and_r (o && l) d a) in
    (ltb→lt (suc m) (2 ^ 53) (and_r o l (and_l (o && l) d a)), go b (dec_le (suc k) 1074))
  where
    go : 2 ^ suc k ≤ 2 ^ 1074 → Dec (suc k ≤ 1074) → suc k ≤ 1074
    go b (yes l) = l
    go b (no l) = let g : 1074 < suc k = omega arith in absurd (not-le_of_lt (pow-lt g) b)

places : (x : Float) → T (fits binary64 x) → (NoFraction x → ⊥) → Places x
places nan f n = absurd (n tt)
places (inf s) f n = absurd (n tt)
places (fin true m e) f n = absurd (n tt)
places (fin false zero e) f n =
    record {
      more = 0;
      size = 0;
      deep = omega arith;
      small = pow_pos 53;
      value = (refl, rw (zero-mul (up e), zero-mul (2 ^ 53), zero-mul (down e)));
    }
places (fin false (suc m) (pos k)) f n = absurd (n (mul-pos (zero-lt-suc m) (pow_pos k)))
places (fin false (suc m) (negsuc k)) f n = go (short m k f) (dec_le 53 (suc k))
  where
    below : suc m < 2 ^ suc k
    below = let a : 2 ^ suc k ≤ suc m → ⊥ = λ l. n (rw mul-one l) in omega arith

    go : (suc m < 2 ^ 53) × (suc k ≤ 1074) → Dec (53 ≤ suc k) → Places (fin false (suc m) (negsuc k))
    go s (yes l) =
        let z : 53 + (suc k - 53) ≡ suc k = omega arith in
        record {
          more = suc k - 53;
          size = suc m;
          deep = omega arith;
          small = s.0;
          value = (refl, rw (mul-one, z));
        }
    go s (no l) =
        let z : suc k + (53 - suc k) ≡ 53 = omega arith in
        let y : 53 - suc k + suc k ≡ 53 = omega arith in
        record {
          more = 0;
          size = suc m * 2 ^ (53 - suc k);
          deep = omega arith;
          small = rw z at (shl_lt (suc k) (53 - suc k) below);
          value = (refl, rw (mul-one, mul_assoc (suc m) (2 ^ (53 - suc k)) (2 ^ suc k), ← pow-add 2 (53 - suc k) (suc k), y));
        }

-- ---- the steps in a row

-- i bits of x are drawn into w, and t is what is left
pub record Drawing (x t : Float) (i w : ℕ) : Type 0 where
  pub places_of : Places x
  pub read : i ≤ 53
  pub drawn : w ≡ places_of.size / 2 ^ (53 + places_of.more - i)
  pub left : HasValue t false (places_of.size % 2 ^ (53 + places_of.more - i)) (2 ^ (53 + places_of.more - i))

pub draw-none : (x : Float) → T (fits binary64 x) → (NoFraction x → ⊥) → Drawing x x 0 0
draw-none x f n =
    let p = places x f n in
    let z : 53 + p.more - 0 ≡ 53 + p.more = omega arith in
    let l : 53 ≤ 53 + p.more = omega arith in
    let b : p.size < 2 ^ (53 + p.more) = lt_of_lt_of_le p.small (pow_mono l) in
    record {
      places_of = p;
      read = omega arith;
      drawn = rw (z, div-eq_of_lt b);
      left = rw (z, mod-eq_of_lt b) p.value;
    }

module _ {x t : Float} {i w : ℕ} (s : Drawing x t i w) where
  pub draw-small : w < 2 ^ 53
  draw-small = lt_of_le_of_lt (rw s.drawn (div-le_self s.places_of.size _)) s.places_of.small

  pub draw-more : (bit : ℕ) (rest : Float) → i < 53 → Next t bit rest → Drawing x rest (i + 1) (2 * w + bit)
  draw-more bit rest h n =
      let p = s.places_of in
      let M = p.size in
      let k = 53 + p.more - (i + 1) in
      let z : 53 + p.more - i ≡ suc k = omega arith in
      let y : 1 + k ≡ suc k = one-add k in
      let b : M % 2 ^ suc k < 2 ^ suc k = mod-lt M (pow_pos (suc k)) in
      let c : M % 2 ^ suc k < 2 ^ 53 = lt_of_le_of_lt (mod-le M (2 ^ suc k)) p.small in
      let e = n.step k (M % 2 ^ suc k) (omega (arith, p.deep)) c b (rw z at s.left) in
      let f : M % 2 ^ suc k / 2 ^ k ≡ M / 2 ^ k % 2 = rw y at (field M 1 k) in
      let g : M % 2 ^ suc k % 2 ^ k ≡ M % 2 ^ k = rw y at (mod-mod-pow M 1 k) in
      let u : k + 1 ≡ suc k = omega arith in
      let q : M / 2 ^ k / 2 ≡ M / 2 ^ suc k = rw u at (shr-shr M k 1) in
      let d : w ≡ M / 2 ^ suc k = rw z at s.drawn in
      record {
        places_of = p;
        read = omega arith;
        drawn = omega (arith, e.digit, f, q, d);
        left = rw g at e.left;
      }

-- one size, cut at the same place: A / D is M / c
pub cut_same : (A D M c : ℕ) → 0 < D → 0 < c → A * c ≡ M * D → A / D ≡ M / c
cut_same A D M c d p e =
    sym (mul-div-mul_right A D p) ∙ ap (λ (n : ℕ). n / (D * c)) e ∙ ap (λ (n : ℕ). M * D / n) (mul_comm D c) ∙ mul-div-mul_right M c d

pub left-same : (A D M c : ℕ) → 0 < D → 0 < c → A * c ≡ M * D → A % D * c ≡ M % c * D
left-same A D M c d p e =
    let q = A / D in
    let a : A * c ≡ q * D * c + A % D * c = ap (λ (n : ℕ). n * c) (sym (div-add-mod' A D)) ∙ add-mul (q * D) (A % D) c in
    let b : M * D ≡ q * c * D + M % c * D =
    rw (cut_same A D M c d p e) (ap (λ (n : ℕ). n * D) (sym (div-add-mod' M c)) ∙ add-mul (M / c * c) (M % c) D) in
    omega (arith, a, b, e, mul_right_comm q D c)

-- what 53 steps have drawn
pub record Draws (x : Float) (bits : ℕ) (rest : Bool) : Type 0 where
  pub first : bits ≡ first53 x
  pub others : rest ≡ rest53 x
  pub small : bits < 2 ^ 53

pub draw-done : {x t : Float} {i w : ℕ} → Drawing x t i w → 53 ≤ i → Draws x w (ne t (of_bits binary64 0))
draw-done {x} {t} {i} {w} s h =
    let p = s.places_of in
    let c = 2 ^ p.more in
    let z : 53 + p.more - i ≡ p.more = omega (arith, s.read) in
    let e : num x * 2 ^ 53 * c ≡ p.size * den x =
    rw (mul_assoc (num x) (2 ^ 53) c, ← pow-add 2 53 p.more) (value→cross x p.size (2 ^ (53 + p.more)) p.value) in
    let v : HasValue t false (p.size % c) c = rw z at s.left in
    let n = cross_none (num x * 2 ^ 53 % den x) (den x) (p.size % c) c (pow_pos p.more) (den_pos x)
    (left-same (num x * 2 ^ 53) (den x) p.size c (den_pos x) (pow_pos p.more) e) in
    record {
      first = rw z at s.drawn ∙ sym (cut_same (num x * 2 ^ 53) (den x) p.size c (den_pos x) (pow_pos p.more) e);
      others = not_zero t (p.size % c) c (pow_pos p.more) v ∙ ap not (sym n);
      small = draw-small s;
    }
