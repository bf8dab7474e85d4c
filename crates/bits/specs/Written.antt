-- That the packed form and the whole-number form of a code (`document.Written`) are each one, and are read back.
--
-- In order: a code that a writer takes; the two forms are read back, and what is read is one; there is one packed form and one whole number.
-- Assumes nothing.
use Rattle.std.specs.Prelude.{◌≡◌, refl, Bool, List, [], ◌∷◌, ℕ, suc, ◌+◌, ◌-◌, ◌*◌, ◌^◌, ◌≤◌, ◌<◌, length, take, drop, get_or}
use Rattle.std.proofs.Common.{sym, ap, ◌∙◌, mod-eq_of_lt, arith, length-append, take_at, drop_at}
use Rattle.std.proofs.Math.Decide.{dec_lt, dec_le}
use Rattle.std.proofs.Math.ListN.{get_or-eq_default}
use Rattle.std.proofs.Math.Seq.{take-length}
use Rattle.refusal.specs.document.Table.{Clear}
use Rattle.refusal.specs.Laws.{never}
use Rattle.digit_code.specs.document.Code.{sum, EndsAt, digit_rows}
use Rattle.bits.specs.document.Bits.{word, bytes, Zeros, Fill, Nothing, Reads}
use Rattle.bits.specs.Ends.{end-sum, right_ends}
use Rattle.bits.specs.Laws.{length_bits}
use Rattle.bits.specs.Words.{length_word, word_same, length_bytes}
use Rattle.bits.specs.Steps.{cap_le}
use Rattle.bits.specs.document.Written.{Bytes, Numbers, Packs}

-- a code that a writer takes: it ends with its last digit, has at most `most` digits, and none above R
pub record Coded (R most : ℕ) (c : List ℕ) : Type 0 where
  pub ends : EndsAt c (length c)
  pub size : length c ≤ most
  pub small : (i : ℕ) → get_or c i 0 ≤ R

-- a right digit code can be written where its digits are within what the writer takes
pub right_coded : {R : ℕ} (S most : ℕ) (c : List ℕ) → R ≤ S → Clear (digit_rows R c) → length c ≤ most → Coded S most c
right_coded {R} S most c s r l = record { ends = right_ends c r; size = l; small = λ i. omega (arith, s, go i (dec_lt i (length c)) (dec_le (get_or c i 0) R)) }
  where
    go : (i : ℕ) → Dec (i < length c) → Dec (get_or c i 0 ≤ R) → get_or c i 0 ≤ R
    go i d (yes h) = h
    go i (yes k) (no h) =
        let z : i + 1 - 1 ≡ i = omega arith in
        absurd (never r (i + 1) (omega arith, omega arith, rw z (omega (arith, cap_le R (i + 1)))))
    go i (no k) (no h) = omega (arith, get_or-eq_default c 0 {n = i} (omega arith))

-- and both forms of it are read back
pub packed-back : {R : ℕ} {c s : List ℕ} → Clear (digit_rows R c) → Packs c s → Reads R Fill (bytes s) c
packed-back r p = record { carries = p.carries; right = r }

pub number-back : {R x : ℕ} {c : List ℕ} → Clear (digit_rows R c) → Numbers c x → Reads R Nothing (word (2 * length c - 1) x) c
number-back r p = record { carries = p.carries; right = r }

-- ---- what is read is a form of the code read

pub packed-read : {R : ℕ} {c s : List ℕ} → Bytes s → Reads R Fill (bytes s) c → Packs c s
packed-read b r = record { carries = r.carries; are_bytes = b }

-- the N beside a whole number is the number of its digits
pub number_size : {R n : ℕ} (x : ℕ) {c : List ℕ} → 1 ≤ n → Reads R Nothing (word (2 * n - 1) x) c → length c ≡ n
number_size {n = n} x {c} h r =
    let a = r.carries in
    let e = right_ends c r.right in
    let l = simp (length_word, length-append, length_bits) at (ap length a.same) in
    let z : length a.fill ≡ 0 = ap length a.may in
    let s : sum c + 1 ≡ length c = rw take-length at (end-sum c (length c) e) in
    omega (arith, l, z, s)

pub number_read :
    {R n x : ℕ} {c : List ℕ} → 1 ≤ n → x < 2 ^ (2 * n - 1) → Reads R Nothing (word (2 * n - 1) x) c → Numbers c x
number_read {n = n} {x} {c} h b r = let z = number_size x h r in record { carries = rw z r.carries; below = rw z b }

-- ---- one form

-- one list of bits, one list of bytes
bytes_same : (s t : List ℕ) → Bytes s → Bytes t → bytes s ≡ bytes t → s ≡ t
unfolding bytes
bytes_same [] [] a b e = refl
bytes_same [] (y ∷ t) a b e = absurd (omega (arith, ap length e, length_bytes (y ∷ t)))
bytes_same (x ∷ s) [] a b e = absurd (omega (arith, ap length e, length_bytes (x ∷ s)))
bytes_same (x ∷ s) (y ∷ t) a b e =
    let first = sym (take_at (word 8 x) (bytes s) 8 (length_word 8 x)) ∙ ap (take 8) e ∙ take_at (word 8 y) (bytes t) 8 (length_word 8 y) in
    let rest = sym (drop_at (word 8 x) (bytes s) 8 (length_word 8 x)) ∙ ap (drop 8) e ∙ drop_at (word 8 y) (bytes t) 8 (length_word 8 y) in
    let z : x ≡ y = omega (arith, word_same 8 x y first, a.below 0, b.below 0) in
    let w : s ≡ t = bytes_same s t (record { below = λ i. a.below (suc i) }) (record { below = λ i. b.below (suc i) }) rest in
    cc

-- two zeros of one length
zeros-same : (fs gs : List Bool) → Zeros fs → Zeros gs → length fs ≡ length gs → fs ≡ gs
zeros-same fs gs a b e = a ∙ rw e (sym b)

-- two packed forms of one code are equal
pub packed_again : {c s t : List ℕ} → Packs c s → Packs c t → s ≡ t
packed_again {c} {s} {t} p q =
    let a = p.carries in
    let b = q.carries in
    let m = simp (length_bytes, length-append) at (ap length a.same) in
    let n = simp (length_bytes, length-append) at (ap length b.same) in
    let l : length a.fill ≡ length b.fill = omega (arith, m, n, a.may.1, b.may.1) in
    let z : a.fill ≡ b.fill = zeros-same a.fill b.fill a.may.0 b.may.0 l in
    bytes_same s t p.are_bytes q.are_bytes (a.same ∙ rw z (sym b.same))

-- two whole numbers of one code are equal
pub number_again : {x y : ℕ} {c : List ℕ} → Numbers c x → Numbers c y → x ≡ y
number_again {x} {y} {c} p q =
    let a = p.carries in
    let b = q.carries in
    let k = 2 * length c - 1 in
    let w : word k x ≡ word k y = a.same ∙ rw a.may (rw b.may at (sym b.same)) in
    sym (mod-eq_of_lt p.below) ∙ word_same k x y w ∙ mod-eq_of_lt q.below
