-- What follows a code's end in each form, as the code tests it: a shift to the left and a comparison with 0.
--
-- In order: the low bits of a word; a whole number or fraction; a packed code. Assumes nothing.
use Rattle.std.specs.Prelude.{◌≡◌, Bool, true, false, take, get_or, replicate}
use Rattle.std.proofs.Common.{sym, ◌∙◌, lit<, length-drop, take_at}
use Rattle.std.proofs.Math.Path.{ap}
use mathlib.Core.List.{List, [], ◌∷◌, ◌++◌, append-nil}
use Prim.Native.Nat.{ℕ, suc, ◌+◌, ◌-◌, ◌*◌, ◌/◌, ◌%◌, ◌^◌, ◌≤◌, ◌<◌}
use Rattle.std.proofs.Math.Nat.{mod-mod, zero-mod}
use native.Mathlib.Omega.{arith}
use Rattle.std.proofs.Math.ListN.{length, drop, drop_of_length-le}
use Rattle.std.proofs.lemmas.List.{length-replicate, replicate-append-replicate}
use Rattle.bits.specs.document.Bits.{after, bit, word, bytes, fraction_bits, Zeros, Fill, Nothing}
use Rattle.bits.specs.Words.{length_word, word_two, word_drop, word_zero, word_shift, word_same, bytes-at, length_bytes}

-- zeros, by their number
zeros : (j : ℕ) (fs : List Bool) → length fs ≡ j → fs ≡ replicate j false → Zeros fs
zeros j fs n e = rw n e

-- the j lowest bits of n are zeros exactly when n without those above them, shifted to the left by s, is 0
low_zeros : (j s n : ℕ) → word j n ≡ replicate j false → n * 2 ^ s % 2 ^ (j + s) ≡ 0
low_zeros j s n e =
    let w : word (j + s) (n * 2 ^ s % 2 ^ (j + s)) ≡ word (j + s) 0 =
    word_shift j s n ∙ rw (e, replicate-append-replicate) (sym (word_zero (j + s))) in
    sym (mod-mod (n * 2 ^ s) (2 ^ (j + s))) ∙ word_same (j + s) (n * 2 ^ s % 2 ^ (j + s)) 0 w ∙ zero-mod (2 ^ (j + s))

zeros-low : (j s n : ℕ) → n * 2 ^ s % 2 ^ (j + s) ≡ 0 → word j n ≡ replicate j false
zeros-low j s n z =
    let e : word j n ++ replicate s false ≡ replicate j false ++ replicate s false =
    sym (word_shift j s n) ∙ rw (z, word_zero, replicate-append-replicate) in
    sym (take_at (word j n) (replicate s false) j (length_word j n))
    ∙ ap (take j) e
    ∙ take_at (replicate j false) (replicate s false) j (length-replicate j false)

-- ---- the len lowest bits of x

-- no bit is left
pub word_nothing : (x len e : ℕ) → len ≤ 2 * e - 1 → Nothing (after (word len x) e)
word_nothing x len e l = drop_of_length-le (word len x) {i = 2 * e - 1} (rw length_word l)

pub word_none : (x len e : ℕ) → len ≤ 2 * e - 1 → Zeros (after (word len x) e)
word_none x len e l = rw (word_nothing x len e l)

module _ (x len e : ℕ) (h : 2 * e ≤ len + 1) where
  word_after : after (word len x) e ≡ word (len - (2 * e - 1)) x
  word_after =
      let z : 2 * e - 1 + (len - (2 * e - 1)) ≡ len = omega arith in
      rw z at (word_drop (2 * e - 1) (len - (2 * e - 1)) x)

  -- a bit is left
  pub word_something : 2 * e - 1 < len → Nothing (after (word len x) e) → ⊥
  word_something l n = omega (arith, length_word (len - (2 * e - 1)) x, ap length (sym word_after ∙ n))

  -- only zeros
  pub word-zeros : len ≤ 64 → x * 2 ^ (64 - len + (2 * e - 1)) % 2 ^ 64 ≡ 0 → Zeros (after (word len x) e)
  word-zeros l z =
      let j = len - (2 * e - 1) in
      let k : j + (64 - len + (2 * e - 1)) ≡ 64 = omega arith in
      rw word_after (zeros j (word j x) (length_word j x) (zeros-low j (64 - len + (2 * e - 1)) x (rw k z)))

  pub word_ones : len ≤ 64 → (x * 2 ^ (64 - len + (2 * e - 1)) % 2 ^ 64 ≡ 0 → ⊥) → Zeros (after (word len x) e) → ⊥
  word_ones l n z =
      let j = len - (2 * e - 1) in
      let k : j + (64 - len + (2 * e - 1)) ≡ 64 = omega arith in
      let w : word j x ≡ replicate j false = rw (word_after, length_word) at z in
      n (rw k at (low_zeros j (64 - len + (2 * e - 1)) x w))

word-one : (k x : ℕ) → word k x ++ (true ∷ []) ≡ word (k + 1) (2 * x + 1)
unfolding word bit
word-one k x = let z : 2 * x ≡ x * 2 ^ 1 = omega arith in rw z (sym (word_two k 1 x {r = 1} (lit< tt)))

-- the rest behind the 53 bits of a fraction as one bit more
pub fraction-rest : (x : ℕ) → fraction_bits x true ≡ word 54 (2 * x + 1)
unfolding fraction_bits
fraction-rest x = word-one 53 x

-- ---- packed bytes

module _ (s : List ℕ) (e : ℕ) (o : 1 ≤ e) (h : 2 * e ≤ 8 * length s + 1) where
  -- a spare byte
  pub spare_byte : 2 * e + 7 ≤ 8 * length s → Fill (after (bytes s) e) → ⊥
  spare_byte l f = let n = length-drop (2 * e - 1) (bytes s) in omega (arith, f.1, n, length_bytes s)

  -- the last byte
  module _ (l : 8 * length s < 2 * e + 7) where
    last : after (bytes s) e ≡ word (8 - (2 * e - 1) % 8) (get_or s (length s - 1) 0)
    unfolding bytes
    last =
        let i : length s - 1 ≡ (2 * e - 1) / 8 = omega arith in
        let z : 2 * e - 1 ≡ (2 * e - 1) / 8 * 8 + (2 * e - 1) % 8 = omega arith in
        let n : drop (suc ((2 * e - 1) / 8)) s ≡ [] = drop_of_length-le s {i = suc ((2 * e - 1) / 8)} (omega arith) in
        let b = bytes-at s ((2 * e - 1) / 8) ((2 * e - 1) % 8) (omega arith) (omega arith) in
        ap (λ (n : ℕ). drop n (bytes s)) z ∙ b ∙ rw (n, append-nil, i)

    short : length (after (bytes s) e) < 8
    short = rw (length-drop, length_bytes) (omega arith)

    pub fill-zeros : get_or s (length s - 1) 0 * 2 ^ ((2 * e - 1) % 8) % 2 ^ 8 ≡ 0 → Fill (after (bytes s) e)
    fill-zeros z =
        let r = (2 * e - 1) % 8 in
        let x = get_or s (length s - 1) 0 in
        let k : 8 - r + r ≡ 8 = omega arith in
        (rw last (zeros (8 - r) (word (8 - r) x) (length_word (8 - r) x) (zeros-low (8 - r) r x (rw k z))), short)

    pub fill_ones : (get_or s (length s - 1) 0 * 2 ^ ((2 * e - 1) % 8) % 2 ^ 8 ≡ 0 → ⊥) → Fill (after (bytes s) e) → ⊥
    fill_ones n f =
        let r = (2 * e - 1) % 8 in
        let x = get_or s (length s - 1) 0 in
        let k : 8 - r + r ≡ 8 = omega arith in
        let w : word (8 - r) x ≡ replicate (8 - r) false = rw (last, length_word) at f.0 in
        n (rw k at (low_zeros (8 - r) r x w))

-- ---- which it is
