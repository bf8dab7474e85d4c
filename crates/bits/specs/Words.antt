-- The bits of a word of any width, as the machine's operators have them: the leading ones by `leading_zeros` of the inverted word,
-- the low bits, two words side by side, a word shifted to the left; and the bits of bytes. Assumes nothing.
use Rattle.std.specs.Prelude.{◌≡◌, refl, Bool, true, false, List, [], ◌∷◌, ◌++◌, ℕ, zero, suc, ◌+◌, ◌-◌, ◌*◌, ◌/◌, ◌%◌, ◌^◌, ◌≤◌, ◌<◌, length, drop, get_or, replicate}
use Rattle.std.proofs.Common.{sym, ap, ◌∙◌, append_assoc, zero-add, add-zero, suc-add, add_comm, zero-mul, mul_assoc, pow-suc, mod-lt, one-add, arith, lit<, length-append, pow_pos, shr-shr}
use Rattle.std.proofs.Math.Decide.{dec_lt}
use Rattle.std.proofs.Math.Nat.{pow-succ', zero-div, div-eq_of_lt, mul-add-div_right}
use Rattle.std.proofs.lemmas.List.{drop-append-le}
use Rattle.std.proofs.Math.Seq.{drop-append-add}
use Rattle.std.proofs.Math.Pow.{split, high}
use Rattle.std.proofs.lemmas.Nat.{mod-pow-add, leading_length}
use Rattle.std.specs.Int.Count.{count_leading_zeros, leading_unique}
use Rattle.bits.specs.document.Bits.{bit, word, bytes}

-- the ones that the bits begin with
unfoldable pub lead : List Bool → ℕ
lead [] = 0
lead (true ∷ bs) = suc (lead bs)
lead (false ∷ bs) = 0

pub length_word : (k n : ℕ) → length (word k n) ≡ k
unfolding word
length_word zero n = refl
length_word (suc k) n = ap suc (length_word k n)

-- what stands above the k lowest bits is not looked at
pub word_low : (k a r : ℕ) → word k (a * 2 ^ k + r) ≡ word k r
unfolding word
word_low zero a r = refl
word_low (suc k) a r =
    let z : a * 2 ^ suc k ≡ a * 2 * 2 ^ k = ap (λ (x : ℕ). a * x) (pow-succ' 2 k) ∙ sym (mul_assoc a 2 (2 ^ k)) in
    let m : (a * 2 + r / 2 ^ k) % 2 ≡ r / 2 ^ k % 2 = omega arith in
    rw (z, mul-add-div_right (pow_pos k) (a * 2) r, m, word_low k (a * 2) r)

pub word_mod : (k n : ℕ) → word k (n % 2 ^ k) ≡ word k n
word_mod k n = sym (word_low k (n / 2 ^ k) (n % 2 ^ k)) ∙ ap (word k) (split n k)

pub word_zero : (k : ℕ) → word k 0 ≡ replicate k false
unfolding word bit
word_zero zero = refl
word_zero (suc k) = rw (zero-div, word_zero k)

-- without its s highest bits
pub word_drop : (s k n : ℕ) → drop s (word (s + k) n) ≡ word k n
unfolding word
word_drop zero k n = rw zero-add
word_drop (suc s) k n = rw suc-add (word_drop s k n)

-- two words side by side
pub word_two : (j k a : ℕ) {r : ℕ} → r < 2 ^ k → word (j + k) (a * 2 ^ k + r) ≡ word j a ++ word k r
unfolding word
word_two zero k a {r} h = rw zero-add (word_low k a r)
word_two (suc j) k a {r} h =
    let t : (a * 2 ^ k + r) / 2 ^ (j + k) ≡ a / 2 ^ j = rw (add_comm j k, ← shr-shr (a * 2 ^ k + r) k j, high a k h) in
    rw (suc-add, t, word_two j k a h)

-- a word shifted to the left, as the machine does it
pub word_shift : (j s n : ℕ) → word (j + s) (n * 2 ^ s % 2 ^ (j + s)) ≡ word j n ++ replicate s false
word_shift j s n =
    word_mod (j + s) (n * 2 ^ s)
    ∙ ap (word (j + s)) (sym (add-zero (n * 2 ^ s)))
    ∙ word_two j s n (pow_pos s)
    ∙ ap (λ (l : List Bool). word j n ++ l) (word_zero s)

bit-same : (a b : ℕ) → a < 2 → b < 2 → bit a ≡ bit b → a ≡ b
unfolding bit
bit-same zero zero h g e = refl
bit-same zero (suc b) h g e = let z : ◌≡◌ {A = ℕ} 0 1 = cc in omega arith
bit-same (suc a) zero h g e = let z : ◌≡◌ {A = ℕ} 0 1 = cc in omega arith
bit-same (suc a) (suc b) h g e = omega arith

heads : {a b : Bool} {l m : List Bool} → a ∷ l ≡ b ∷ m → a ≡ b
heads e = cc

tails : {a b : Bool} {l m : List Bool} → a ∷ l ≡ b ∷ m → l ≡ m
tails e = cc

top_split : (k n : ℕ) → n % 2 ^ suc k ≡ n / 2 ^ k % 2 * 2 ^ k + n % 2 ^ k
top_split k n = ap (λ (j : ℕ). n % 2 ^ j) (sym (one-add k)) ∙ mod-pow-add n 1 k

-- one list of bits, one number
pub word_same : (k x y : ℕ) → word k x ≡ word k y → x % 2 ^ k ≡ y % 2 ^ k
unfolding word
word_same zero x y e = omega arith
word_same (suc k) x y e =
    let b : x / 2 ^ k % 2 ≡ y / 2 ^ k % 2 = bit-same _ _ (mod-lt _ (lit< tt)) (mod-lt _ (lit< tt)) (heads e) in
    rw (top_split k x, top_split k y, b, word_same k x y (tails e))

-- ---- the leading ones

more-zeros : (k a : ℕ) → a < 2 ^ k → count_leading_zeros (suc k) a ≡ suc (count_leading_zeros k a)
more-zeros k a h =
    let t = leading_length k a h in
    sym (leading_unique (suc k) a (suc (count_leading_zeros k a)) t.0 (rw (suc-add, t.1)) t.2 t.3)

-- the count of leading zeros of the inverted bits of a word is the count of the word's leading ones
pub lead-word : (k x : ℕ) → x < 2 ^ k → count_leading_zeros k ((2 ^ k - 1) - x) ≡ lead (word k x)
unfolding word lead bit count_leading_zeros
lead-word zero x h = refl
lead-word (suc k) x h = go (lead-word k (x - 2 ^ k)) (dec_lt x (2 ^ k))
  where
    p : 2 ^ suc k ≡ 2 ^ k * 2
    p = pow-suc 2 k

    go : (x - 2 ^ k < 2 ^ k → count_leading_zeros k ((2 ^ k - 1) - (x - 2 ^ k)) ≡ lead (word k (x - 2 ^ k)))
        → Dec (x < 2 ^ k) → count_leading_zeros (suc k) ((2 ^ suc k - 1) - x) ≡ lead (bit (x / 2 ^ k % 2) ∷ word k x)
    go i (yes l) =
        rw (div-eq_of_lt l)
        (sym (leading_unique (suc k) ((2 ^ suc k - 1) - x) 0 (suc k) (zero-add _) (omega arith) (omega arith)))
    go i (no l) =
        let y = x - 2 ^ k in
        let z : x ≡ 1 * 2 ^ k + y = omega arith in
        let s : y < 2 ^ k = omega arith in
        let q : x / 2 ^ k ≡ 1 = ap (λ (n : ℕ). n / 2 ^ k) z ∙ high 1 k s in
        let w : word k x ≡ word k y = ap (word k) z ∙ word_low k 1 y in
        let a : (2 ^ suc k - 1) - x ≡ (2 ^ k - 1) - y = omega arith in
        rw (a, q, more-zeros k ((2 ^ k - 1) - y) (omega (arith, pow_pos k)), i s, w)

pub lead-zeros : (xs : List Bool) (z : ℕ) → lead (xs ++ replicate z false) ≡ lead xs
unfolding lead
lead-zeros [] zero = refl
lead-zeros [] (suc z) = refl
lead-zeros (true ∷ xs) z = ap suc (lead-zeros xs z)
lead-zeros (false ∷ xs) z = refl

-- ---- bytes

pub bytes-append : (l m : List ℕ) → bytes (l ++ m) ≡ bytes l ++ bytes m
unfolding bytes
bytes-append [] m = refl
bytes-append (b ∷ l) m = rw (append_assoc, bytes-append l m)

pub length_bytes : (l : List ℕ) → length (bytes l) ≡ 8 * length l
unfolding bytes
length_bytes [] = refl
length_bytes (b ∷ l) = simp (length-append, length_word) (omega (arith, length_bytes l))

-- the bits from a place within the byte i on
pub bytes-at
    : (l : List ℕ) (i s : ℕ) → i < length l → s ≤ 8 → drop (i * 8 + s) (bytes l) ≡ word (8 - s) (get_or l i 0) ++ bytes (drop (suc i) l)
unfolding bytes
bytes-at [] i s h g = absurd (omega arith)
bytes-at (b ∷ l) zero s h g =
    let k : s ≤ length (word 8 b) = rw length_word g in
    let e : s + (8 - s) ≡ 8 = omega arith in
    let d : drop s (word 8 b) ≡ word (8 - s) b = rw e at (word_drop s (8 - s) b) in
    rw (zero-mul, zero-add, drop-append-le s (word 8 b) (bytes l) k, d)
bytes-at (b ∷ l) (suc i) s h g =
    let e : suc i * 8 + s ≡ length (word 8 b) + (i * 8 + s) = rw length_word (omega arith) in
    rw (e, drop-append-add (word 8 b) (bytes l) (i * 8 + s)) (bytes-at l i s (omega arith) g)
