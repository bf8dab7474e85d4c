-- A writer's steps: a digit appended to the bits of a word, the highest eight bits taken off it as a byte, and what the two writers
-- know as they go. Assumes nothing.
use Rattle.std.specs.Prelude.{◌≡◌, refl, Bool, List, [], ◌∷◌, ◌++◌, ℕ, zero, suc, ◌+◌, ◌-◌, ◌*◌, ◌/◌, ◌%◌, ◌^◌, ◌≤◌, ◌<◌, length, take, drop, get_or}
use Rattle.std.proofs.Common.{sym, ap, ◌∙◌, append-nil, one-mul, suc-add, mod-lt, pow-suc, lt_of_lt_of_le, add-one, arith, lit<, pow_pos, pow_mono, pow-add, shl_lt, shl_exact, take-append-drop, take-suc, take_all}
use Rattle.std.proofs.Math.Pow.{split, high, mod-mod-pow}
use Rattle.std.proofs.Math.Arith.{digits_lt}
use Rattle.std.proofs.Math.Seq.{take-length}
use Rattle.digit_code.specs.document.Code.{sum, EndsAt}
use Rattle.digit_code.specs.Counting.{sum-append, sum_more}
use Rattle.limits.specs.document.Limits.{whole_size}
use Rattle.bits.specs.document.Bits.{bits, bit, word}
use Rattle.bits.specs.Ends.{end-sum}
use Rattle.bits.specs.Laws.{bits-append}
use Rattle.bits.specs.Words.{word_low, word_mod, word_two}
use Rattle.bits.specs.Written.{Coded}
use Rattle.bits.specs.document.Written.{Numbers}

-- ---- words

-- k ones and a zero
word_ones : (k : ℕ) → word (k + 1) (2 ^ (k + 1) - 2) ≡ bits (k ∷ [])
unfolding word bit bits
word_ones zero = refl
word_ones (suc k) =
    let p : 2 ^ suc (k + 1) ≡ 2 ^ (k + 1) * 2 = pow-suc 2 (k + 1) in
    let two : 2 ≤ 2 ^ (k + 1) = pow_mono {i = 1} {j = k + 1} (omega arith) in
    let n : 2 ^ suc (k + 1) - 2 ≡ 1 * 2 ^ (k + 1) + (2 ^ (k + 1) - 2) = omega arith in
    let l : 2 ^ (k + 1) - 2 < 2 ^ (k + 1) = omega arith in
    rw (suc-add, n, high 1 (k + 1) l, word_low (k + 1) 1 (2 ^ (k + 1) - 2), word_ones k)

-- the digit k behind the c lowest bits of a
pub word-append : (c a k : ℕ) → word (c + (k + 1)) (a * 2 ^ (k + 1) + (2 ^ (k + 1) - 2)) ≡ word c a ++ bits (k ∷ [])
word-append c a k =
    let two : 2 ≤ 2 ^ (k + 1) = pow_mono {i = 1} {j = k + 1} (omega arith) in
    let l : 2 ^ (k + 1) - 2 < 2 ^ (k + 1) = omega arith in
    word_two c (k + 1) a l ∙ ap (λ (b : List Bool). word c a ++ b) (word_ones k)

-- bits above those that are looked at may be taken off
pub word-less : (c d a : ℕ) → word c (a % 2 ^ (d + c)) ≡ word c a
word-less c d a = sym (word_mod c (a % 2 ^ (d + c))) ∙ rw (mod-mod-pow a d c) (word_mod c a)

-- the highest eight of 8 + c bits, and the others
pub word_byte : (c a : ℕ) → word (8 + c) a ≡ word 8 (a / 2 ^ c % 2 ^ 8) ++ word c a
word_byte c a =
    ap (word (8 + c)) (sym (split a c)) ∙ word_two 8 c (a / 2 ^ c) (mod-lt a (pow_pos c)) ∙ rw (word_mod c a, word_mod 8 (a / 2 ^ c))

-- ---- digits

digits_more : (d : List ℕ) (i : ℕ) → i < length d → take (i + 1) d ≡ take i d ++ (get_or d i 0 ∷ [])
digits_more d i h = rw (add-one, take-suc d i 0 h)

pub bits_take : (d : List ℕ) (i : ℕ) → i < length d → bits (take (i + 1) d) ≡ bits (take i d) ++ bits (get_or d i 0 ∷ [])
bits_take d i h = rw (digits_more d i h) (bits-append (take i d) (get_or d i 0 ∷ []))

-- the bits of some digits of a code are among its 2N - 1
pub sum_within : (d : List ℕ) (i : ℕ) → EndsAt d (length d) → sum (take i d) + 1 ≤ length d
sum_within d i h =
    let a : sum (take i d) + sum (drop i d) ≡ sum d = sym (sum-append (take i d) (drop i d)) ∙ ap sum (take-append-drop i d) in
    omega (arith, a, rw take-length at (end-sum d (length d) h))

-- ---- a whole number

-- a digit k can be appended to x in a word of 64 bits
pub record Room (k x : ℕ) : Type 0 where
  pub short : k < 62
  pub below : x < 2 ^ (62 - k)

-- so nothing is lost
pub record Appends (k x : ℕ) : Type 0 where
  pub left : x * 2 ^ (k + 1) % 2 ^ 64 ≡ x * 2 ^ (k + 1)
  pub ones : 1 * 2 ^ (k + 1) % 2 ^ 64 ≡ 2 ^ (k + 1)
  pub two : 2 ≤ 2 ^ (k + 1)
  pub fits : x * 2 ^ (k + 1) + (2 ^ (k + 1) - 2) < 2 ^ 64

pub appends : {k x : ℕ} → Room k x → Appends k x
appends {k} {x} r =
    let z : 62 - k + (k + 1) ≡ 63 = omega (arith, r.short) in
    let a : x * 2 ^ (k + 1) < 2 ^ 63 = rw z at (shl_lt (62 - k) (k + 1) r.below) in
    let b : 2 ^ (k + 1) ≤ 2 ^ 63 = pow_mono {i = k + 1} {j = 63} (omega (arith, r.short)) in
    record {
      left = shl_exact (62 - k) (k + 1) 64 r.below (omega arith);
      ones = shl_exact {a = 1} 1 (k + 1) 64 (lit< tt) (omega (arith, r.short)) ∙ one-mul (2 ^ (k + 1));
      two = pow_mono {i = 1} {j = k + 1} (omega arith);
      fits = omega arith;
    }

-- i digits are in x
pub record Numbering (d : List ℕ) (i x : ℕ) : Type 0 where
  pub same : word (i + sum (take i d)) x ≡ bits (take i d)
  pub below : x < 2 ^ (i + sum (take i d))
  pub read : i ≤ length d

pub number-none : (d : List ℕ) → Numbering d 0 0
unfolding sum bits word
number-none d = record { same = refl; below = lit< tt; read = omega arith }

module _ {d : List ℕ} {i x : ℕ} (s : Numbering d i x) (h : i < length d) where
  -- the next digit fits a word of 64 bits
  pub number-room : {R : ℕ} → Coded R whole_size d → Room (get_or d i 0) x
  number-room c =
      let k = get_or d i 0 in
      let w = sum_within d (i + 1) c.ends in
      let l : i + sum (take i d) ≤ 62 - k = omega (arith, w, sum_more d i h, c.size) in
      record { short = omega (arith, w, sum_more d i h, c.size); below = lt_of_lt_of_le s.below (pow_mono l) }

  pub number_more : (y : ℕ) → y ≡ x * 2 ^ (get_or d i 0 + 1) + (2 ^ (get_or d i 0 + 1) - 2) → Numbering d (i + 1) y
  number_more y e =
      let k = get_or d i 0 in
      let b = i + sum (take i d) in
      let n : i + 1 + sum (take (i + 1) d) ≡ b + (k + 1) = omega (arith, sum_more d i h) in
      let two : 2 ≤ 2 ^ (k + 1) = pow_mono {i = 1} {j = k + 1} (omega arith) in
      let l : 2 ^ (k + 1) - 2 < 2 ^ (k + 1) = omega arith in
      record {
        same = rw (n, e, word-append b x k, s.same) (sym (bits_take d i h));
        below = rw (n, e, pow-add 2 b (k + 1)) (digits_lt s.below l);
        read = omega arith;
      }

pub number-done : {d : List ℕ} {i x : ℕ} → Numbering d i x → length d ≤ i → EndsAt d (length d) → Numbers d x
number-done {d} {i} {x} s l h =
    let t : take i d ≡ d = take_all i d l in
    let n : i + sum (take i d) ≡ 2 * length d - 1 = rw t (omega (arith, s.read, rw take-length at (end-sum d (length d) h))) in
    let w : word (2 * length d - 1) x ≡ bits d = rw (← n) (s.same ∙ ap bits t) in
    record { carries = record { fill = []; same = rw append-nil w; may = refl }; below = rw (← n) s.below }
