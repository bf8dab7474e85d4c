-- The fraction of a right code is in range and is read back, and a code has one fraction. Assumes nothing.
use Rattle.std.specs.Prelude.{◌≡◌, refl, Bool, true, not, List, [], ◌∷◌, ◌++◌, ℕ, zero, suc, ◌+◌, ◌-◌, ◌*◌, ◌/◌, ◌%◌, ◌^◌, ◌≤◌, ◌<◌, T, take, drop, Float}
use Rattle.std.proofs.Common.{sym, ◌∙◌, true≢false, append-nil, mul-one, add-zero, mul_assoc, mul_comm, mul_right_comm, zero-mul, div-one, mod-lt, div-add-mod', div-lt_iff_lt-mul, not-le_of_lt, lit<, pow_pos, pow-add, shr_lt, eq-eqb, eqb-true, length-append, take_at, drop_at}
use Rattle.std.proofs.Math.Path.{ap}
use Rattle.std.proofs.Math.Bool.{false}
use Rattle.std.proofs.Math.Nat.{mod-one, mod-mod, zero-mod, mul-lt-mul_of_pos_left, eq_of_mul-eq-mul_right}
use native.Mathlib.Omega.{arith}
use Rattle.std.proofs.Math.Pow.{split}
use Rattle.std.proofs.lemmas.Bool.{not-false}
use Rattle.std.proofs.Math.ListN.{length, replicate}
use Rattle.std.proofs.lemmas.List.{length-replicate}
use Rattle.std.proofs.Math.Seq.{take-length}
use Rattle.std.specs.Float.{nan, inf, fin, binary64}
use Rattle.std.specs.Float.Ieee.{up, down, size, fits, to_bits, of_bits}
use Rattle.std.specs.Float.Ieee.Bits.{of_bits-to_bits}
use Rattle.std.specs.Float.Ieee.Exact.{HasValue}
use Rattle.std.specs.Float.Ieee.Fits.{down_pos}
use Rattle.std.specs.Float.Ieee.Positive.{num, den, den_pos, value→cross}
use Rattle.refusal.specs.document.Table.{Clear}
use Rattle.digit_code.specs.document.Code.{digit_rows}
use Rattle.limits.specs.document.Limits.{fraction_size}
use Rattle.bits.specs.document.Bits.{bits, word, cut_from, fraction_bits, Zeros, Reads}
use Rattle.bits.specs.Ends.{end-sum, right_ends}
use Rattle.bits.specs.Laws.{length_bits, cut_bits}
use Rattle.bits.specs.Words.{length_word, word_two, word_zero, word_same}
use Rattle.bits.specs.Written.{number_again}
use Rattle.fraction.specs.document.Fraction.{IsFraction, NoFraction, first53, rest53, bits_of}
use Rattle.fraction.specs.Floats.{cross_lt}
use Rattle.fraction.specs.Drawing.{cut_same, left-same}

-- ---- one value, one float

same_bits :
    (x y : Float) (a c : ℕ) → 0 < c → HasValue x false a c → HasValue y false a c → to_bits binary64 x ≡ to_bits binary64 y
unfolding to_bits
same_bits (fin true m e) y a c C v w = absurd (true≢false v.0)
same_bits (fin false m e) nan a c C v w = absurd w
same_bits (fin false m e) (inf t) a c C v w = absurd w
same_bits (fin false m e) (fin true n d) a c C v w = absurd (true≢false w.0)
same_bits (fin false m e) (fin false n d) a c C v w = ap (λ (k : ℕ). 0 + (size k - 53) * 2 ^ 52 + k / 2 ^ (size k - 53)) (units m e v ∙ sym (units n d w))
  where
    units : (i : ℕ) (g : lib.IntN.ℤ) → (false ≡ false) × (i * up g * c ≡ a * down g) → i * up g * 2 ^ 1074 / down g ≡ a * 2 ^ 1074 / c
    units i g u =
        let z : i * up g * 2 ^ 1074 * c ≡ a * 2 ^ 1074 * down g =
        mul_right_comm (i * up g) (2 ^ 1074) c ∙ ap (λ (k : ℕ). k * 2 ^ 1074) u.1 ∙ mul_right_comm a (down g) (2 ^ 1074) in
        cut_same (i * up g * 2 ^ 1074) (down g) (a * 2 ^ 1074) c (down_pos g) C z
same_bits nan y a c C v w = elim v [ ]
same_bits (inf _) y a c C v w = elim v [ ]

value_unique :
    (x y : Float) (a c : ℕ) → 0 < c → T (fits binary64 x) → T (fits binary64 y) → HasValue x false a c → HasValue y false a c → x ≡ y
value_unique x y a c C f g v w =
    sym (of_bits-to_bits binary64 x f) ∙ ap (of_bits binary64) (same_bits x y a c C v w) ∙ of_bits-to_bits binary64 y g

-- a code has one fraction
pub fraction_again : {c : List ℕ} {x y : Float} → IsFraction c x → IsFraction c y → x ≡ y
fraction_again {c} {x} {y} p q =
    let z : q.number ≡ p.number = number_again q.numbers p.numbers in
    let k = 2 * length c - 1 in
    value_unique x y p.number (2 ^ k) (pow_pos k) p.fits_f64 q.fits_f64 p.value (rw z at q.value)

-- ---- read back

below_one : (x : Float) (a c : ℕ) → 0 < c → a < c → HasValue x false a c → NoFraction x → ⊥
below_one nan a c C l v o = v
below_one (inf s) a c C l v o = v
below_one (fin true m e) a c C l v o = true≢false v.0
below_one (fin false m e) a c C l v o = not-le_of_lt (cross_lt (m * up e) (down e) a c C (down_pos e) v.1 l) o

pub fraction_inside : {c : List ℕ} {x : Float} → IsFraction c x → NoFraction x → ⊥
fraction_inside {c} {x} p =
    let k = 2 * length c - 1 in
    below_one x p.number (2 ^ k) (pow_pos k) p.numbers.below p.value

module _ {c : List ℕ} {x : Float} (p : IsFraction c x) (l : length c ≤ fraction_size) where
  -- the whole number, moved up to 53 places
  moved : num x * 2 ^ 53 * 1 ≡ p.number * 2 ^ (53 - (2 * length c - 1)) * den x
  moved =
      let k = 2 * length c - 1 in
      let z : k + (53 - k) ≡ 53 = omega arith in
      let v : num x * 2 ^ k ≡ p.number * den x = value→cross x p.number (2 ^ k) p.value in
      let w : num x * 2 ^ 53 ≡ num x * 2 ^ k * 2 ^ (53 - k) =
      ap (λ (n : ℕ). num x * 2 ^ n) (sym z) ∙ ap (λ (n : ℕ). num x * n) (pow-add 2 k (53 - k)) ∙ sym (mul_assoc (num x) (2 ^ k) (2 ^ (53 - k))) in
      mul-one (num x * 2 ^ 53) ∙ w ∙ ap (λ (n : ℕ). n * 2 ^ (53 - k)) v ∙ mul_right_comm p.number (den x) (2 ^ (53 - k))

  first_is : first53 x ≡ p.number * 2 ^ (53 - (2 * length c - 1))
  first_is = cut_same (num x * 2 ^ 53) (den x) (p.number * 2 ^ (53 - (2 * length c - 1))) 1 (den_pos x) (lit< tt) moved ∙ div-one _

  none_left : rest53 x ≡ false
  none_left =
      let r = left-same (num x * 2 ^ 53) (den x) (p.number * 2 ^ (53 - (2 * length c - 1))) 1 (den_pos x) (lit< tt) moved in
      let z : num x * 2 ^ 53 % den x ≡ 0 = sym (mul-one _) ∙ r ∙ rw (mod-one, zero-mul) in
      ap not (eq-eqb (num x * 2 ^ 53 % den x) 0 z)

  bits_are : bits_of x ≡ bits c ++ replicate (53 - (2 * length c - 1)) false
  unfolding fraction_bits
  bits_are =
      let k = 2 * length c - 1 in
      let n = p.number in
      let z : k + (53 - k) ≡ 53 = omega arith in
      let a = p.numbers.carries in
      let w : word k n ≡ bits c = a.same ∙ rw (a.may, append-nil) in
      let u : word (k + (53 - k)) (n * 2 ^ (53 - k)) ≡ bits c ++ replicate (53 - k) false =
      ap (word (k + (53 - k))) (sym (add-zero (n * 2 ^ (53 - k)))) ∙ word_two k (53 - k) n (pow_pos (53 - k)) ∙ rw (w, word_zero) in
      rw (none_left, first_is) (rw z at u)

  pub fraction-back : {R : ℕ} → Clear (digit_rows R c) → Reads R Zeros (bits_of x) c
  fraction-back r =
      record {
        carries = record { fill = replicate (53 - (2 * length c - 1)) false; same = bits_are; may = rw length-replicate };
        right = r;
      }

-- ---- what is read is the fraction of the code read

-- a one at the end of the bits is a run that no zero ends
cut_one : (n : ℕ) (bs : List Bool) → 1 ≤ cut_from n (bs ++ (true ∷ []))
unfolding cut_from
cut_one n [] = omega arith
cut_one n (true ∷ bs) = cut_one (suc n) bs
cut_one n (false ∷ bs) = cut_one 0 bs

cut_zeros : (k : ℕ) → cut_from 0 (replicate k false) ≡ 0
unfolding cut_from
cut_zeros zero = refl
cut_zeros (suc k) = cut_zeros k

-- so no rest stands behind a code and zeros
rest-none : (n : ℕ) (b : Bool) (c : List ℕ) (fs : List Bool) → Zeros fs → fraction_bits n b ≡ bits c ++ fs → b ≡ false
unfolding fraction_bits
rest-none n false c fs z e = refl
rest-none n true c fs z e =
    let k : cut_from 0 (word 53 n ++ (true ∷ [])) ≡ 0 = ap (cut_from 0) e ∙ cut_bits c fs ∙ ap (cut_from 0) z ∙ cut_zeros (length fs) in
    absurd (let f : ⊥ = omega (arith, cut_one 0 (word 53 n)) in f)

-- bits and then zeros: the bits are those of the number without its low ones, which are zeros
word-parts :
    (k j n : ℕ) (bs fs : List Bool) → word (k + j) n ≡ bs ++ fs → length bs ≡ k → Zeros fs
    → (word k (n / 2 ^ j) ≡ bs) × (n ≡ n / 2 ^ j * 2 ^ j)
word-parts k j n bs fs e l z =
    let w : word k (n / 2 ^ j) ++ word j (n % 2 ^ j) ≡ bs ++ fs =
    sym (word_two k j (n / 2 ^ j) (mod-lt n (pow_pos j))) ∙ ap (word (k + j)) (split n j) ∙ e in
    let b : word j (n % 2 ^ j) ≡ fs =
    sym (drop_at (word k (n / 2 ^ j)) (word j (n % 2 ^ j)) k (length_word k (n / 2 ^ j))) ∙ ap (drop k) w ∙ drop_at bs fs k l in
    let m : length fs ≡ j = sym (ap length b) ∙ length_word j (n % 2 ^ j) in
    let o : word j (n % 2 ^ j) ≡ word j 0 = b ∙ z ∙ rw m (sym (word_zero j)) in
    let g : n % 2 ^ j ≡ 0 = sym (mod-mod n (2 ^ j)) ∙ word_same j (n % 2 ^ j) 0 o ∙ zero-mod (2 ^ j) in (
      sym (take_at (word k (n / 2 ^ j)) (word j (n % 2 ^ j)) k (length_word k (n / 2 ^ j))) ∙ ap (take k) w ∙ take_at bs fs k l,
      sym (split n j) ∙ rw (g, add-zero),
    )

-- in range, the size is below 1, and is the value
inside_below : (x : Float) → (NoFraction x → ⊥) → num x < den x
inside_below nan n = absurd (n tt)
inside_below (inf s) n = absurd (n tt)
inside_below (fin true m e) n = absurd (n tt)
inside_below (fin false m e) n = omega arith

inside_value : (x : Float) → (NoFraction x → ⊥) → (a c : ℕ) → num x * c ≡ a * den x → HasValue x false a c
inside_value nan n a c e = absurd (n tt)
inside_value (inf s) n a c e = absurd (n tt)
inside_value (fin true m e') n a c e = absurd (n tt)
inside_value (fin false m e') n a c e = (refl, e)

module _ {R : ℕ} (x : Float) {c : List ℕ} (r : Reads R Zeros (bits_of x) c) where
  no_rest : rest53 x ≡ false
  no_rest = rest-none (first53 x) (rest53 x) c r.carries.fill r.carries.may r.carries.same

  same : word 53 (first53 x) ≡ bits c ++ r.carries.fill
  unfolding fraction_bits
  same = rw no_rest at r.carries.same

  counted : 53 ≡ 2 * length c - 1 + length r.carries.fill
  counted =
      let l = simp (length_word, length-append, length_bits) at (ap length same) in
      omega (arith, l, rw take-length at (end-sum c (length c) (right_ends c r.right)))

  pub fraction-size : length c ≤ fraction_size
  fraction-size = omega (arith, counted)

  none_over : num x * 2 ^ 53 ≡ first53 x * den x
  none_over =
      let z : num x * 2 ^ 53 % den x ≡ 0 = eqb-true (num x * 2 ^ 53 % den x) 0 (not-false _ no_rest) in
      sym (div-add-mod' (num x * 2 ^ 53) (den x)) ∙ rw (z, add-zero)

  pub fraction-read : T (fits binary64 x) → (NoFraction x → ⊥) → IsFraction c x
  fraction-read f n =
      let k = 2 * length c - 1 in
      let j = 53 - k in
      let N = first53 x / 2 ^ j in
      let z : k + j ≡ 53 = omega (arith, counted) in
      let l : length (bits c) ≡ k = length_bits c ∙ omega (arith, rw take-length at (end-sum c (length c) (right_ends c r.right))) in
      let p = word-parts k j (first53 x) (bits c) r.carries.fill (rw z same) l r.carries.may in
      let a : num x * 2 ^ 53 < 2 ^ 53 * den x = rw (mul_comm (num x) (2 ^ 53)) (mul-lt-mul_of_pos_left (inside_below x n) (pow_pos 53)) in
      let b : first53 x < 2 ^ (k + j) = rw z ((div-lt_iff_lt-mul (den_pos x)).1 a) in
      let e : num x * 2 ^ k * 2 ^ j ≡ N * den x * 2 ^ j =
      mul_assoc (num x) (2 ^ k) (2 ^ j)
      ∙ ap (λ (i : ℕ). num x * i) (sym (pow-add 2 k j) ∙ ap (λ (i : ℕ). 2 ^ i) z)
      ∙ none_over
      ∙ ap (λ (i : ℕ). i * den x) p.1
      ∙ mul_right_comm N (2 ^ j) (den x) in
      record {
        number = N;
        numbers =
            record { carries = record { fill = []; same = rw append-nil p.0; may = refl }; below = shr_lt k j b };
        value = inside_value x n N (2 ^ k) (eq_of_mul-eq-mul_right (2 ^ j) (pow_pos j) (num x * 2 ^ k) (N * den x) e);
        fits_f64 = f;
      }
