-- Document 01, "Places and their forms": "the digit is the count of leading zeros of the inverted bits of a word". The run of ones at
-- a place of the bits, counted so in a word that three bytes make, and in a whole number's 64 bits.
--
-- Assumes nothing.
use Rattle.std.specs.Prelude.{◌≡◌, refl, Bool, true, false, List, [], ◌∷◌, ◌++◌, ℕ, zero, suc, ◌+◌, ◌-◌, ◌*◌, ◌/◌, ◌%◌, ◌^◌, ◌≤◌, ◌<◌, length, drop, get_or, replicate}
use Rattle.std.proofs.Common.{ap, ◌∙◌, append_assoc, mod-lt, arith, length-append, drop-cons, pow_pos}
use Rattle.std.proofs.lemmas.List.{drop-append-le}
use Rattle.std.specs.Int.Count.{count_leading_zeros}
use Rattle.limits.specs.Width.{width}
use Rattle.bits.specs.document.Bits.{word, bytes}
use Rattle.bits.specs.Words.{lead, length_word, word_drop, word_two, word_shift, word_zero, lead-word, lead-zeros, bytes-append, length_bytes, bytes-at}

-- r counts the ones that the bits begin with, as far as m bits show it
pub record Near (m r : ℕ) (bs : List Bool) : Type 0 where
  pub low : r ≤ lead bs
  pub exact : r < m → r ≡ lead bs

lead-part : (xs ys : List Bool) → lead xs ≤ lead (xs ++ ys)
unfolding lead
lead-part [] ys = omega arith
lead-part (true ∷ xs) ys = omega (arith, lead-part xs ys)
lead-part (false ∷ xs) ys = omega arith

lead_stays : (xs ys : List Bool) → lead xs < length xs → lead xs ≡ lead (xs ++ ys)
unfolding lead
lead_stays [] ys h = absurd (omega arith)
lead_stays (true ∷ xs) ys h = ap suc (lead_stays xs ys (omega arith))
lead_stays (false ∷ xs) ys h = refl

-- a count that is exact
pub near_exact : (m : ℕ) {r : ℕ} {bs : List Bool} → r ≡ lead bs → Near m r bs
near_exact m e = record { low = omega arith; exact = λ h. e }

-- what m bits show, fewer show as far as they go
pub near_fewer : {m r : ℕ} (n : ℕ) {bs : List Bool} → n ≤ m → Near m r bs → Near n r bs
near_fewer n l h = record { low = h.low; exact = λ k. h.exact (omega arith) }

-- a count over m bits or more
near_part : (m : ℕ) (xs ys : List Bool) → m ≤ length xs → Near m (lead xs) (xs ++ ys)
near_part m xs ys h = record { low = lead-part xs ys; exact = λ l. lead_stays xs ys (omega arith) }

-- a word of w bits, shifted to the left by s and inverted, has as many leading zeros as its j bits from s on have leading ones
shifted : (w j s n : ℕ) → j + s ≡ w → count_leading_zeros w ((2 ^ w - 1) - n * 2 ^ s % 2 ^ w) ≡ lead (word j n)
shifted w j s n e =
    lead-word w (n * 2 ^ s % 2 ^ w) (mod-lt _ (pow_pos w))
    ∙ rw (← e, word_shift j s n, lead-zeros)

-- the digit of a whole number at a bit of its len
pub digit-word : (x len bit : ℕ) → bit < len → len ≤ 64 → count_leading_zeros 64 ((2 ^ 64 - 1) - x * 2 ^ (64 - len + bit) % 2 ^ 64) ≡ lead (drop bit (word len x))
digit-word x len bit h g =
    let e : bit + (len - bit) ≡ len = omega arith in
    let d : drop bit (word len x) ≡ word (len - bit) x = rw e at (word_drop bit (len - bit) x) in
    rw d (shifted 64 (len - bit) (64 - len + bit) x (omega arith))

-- the 24 - s bits from s on of three bytes
three-bytes
    : (high middle low s : ℕ) → middle < 256 → low < 256 → s ≤ 8
    → word (24 - s) ((high * 256 + middle) * 256 + low) ≡ word (8 - s) high ++ (word 8 middle ++ word 8 low)
three-bytes high middle low s h k g =
    let e : 24 - s ≡ 8 - s + 8 + 8 = omega arith in
    rw (e, word_two (8 - s + 8) 8 (high * 256 + middle) k, word_two (8 - s) 8 high h, append_assoc)

-- zeros behind the bits end a run as the end of the bits does
near_zeros : {m r : ℕ} (bs : List Bool) (z : ℕ) → Near m r (bs ++ replicate z false) → Near m r bs
near_zeros bs z h = record { low = rw lead-zeros at h.low; exact = λ k. h.exact k ∙ lead-zeros bs z }

-- bytes with two zeros behind them: the same bytes, which are 0 past their end
abbrev padded : List ℕ → List ℕ
padded l = l ++ (0 ∷ 0 ∷ [])

padded-at : (l : List ℕ) (i : ℕ) → get_or (padded l) i 0 ≡ get_or l i 0
padded-at [] zero = refl
padded-at [] (suc zero) = refl
padded-at [] (suc (suc i)) = refl
padded-at (b ∷ l) zero = refl
padded-at (b ∷ l) (suc i) = padded-at l i

padded-bytes : (l : List ℕ) → bytes (padded l) ≡ bytes l ++ replicate 16 false
unfolding bytes
padded-bytes l = rw (bytes-append l (0 ∷ 0 ∷ []), word_zero 8)

-- the digit of packed bytes at a bit: enough bits are looked at to tell a run of as many ones as a row is wide from a longer one
pub digit-bytes
    : (l : List ℕ) (at : ℕ) → at < 8 * length l → get_or l (at / 8 + 1) 0 < 256 → get_or l (at / 8 + 2) 0 < 256
    → Near (suc width)
    (count_leading_zeros 32 ((2 ^ 32 - 1) - ((get_or l (at / 8) 0 * 256 + get_or l (at / 8 + 1) 0) * 256 + get_or l (at / 8 + 2) 0) * 2 ^ (8 + at % 8) % 2 ^ 32))
    (drop at (bytes l))
unfolding bytes
digit-bytes l at h g k = near_zeros (drop at (bytes l)) 16 (rw (seen, ← behind, there) (near_part (suc width) first (bytes (drop (suc (suc (suc i))) (padded l))) long))
  where
    i : ℕ
    i = at / 8

    s : ℕ
    s = at % 8

    high : ℕ
    high = get_or l (at / 8) 0

    middle : ℕ
    middle = get_or l (at / 8 + 1) 0

    low : ℕ
    low = get_or l (at / 8 + 2) 0

    -- the bits that are looked at
    first : List Bool
    first = word (8 - s) high ++ (word 8 middle ++ word 8 low)

    long : suc width ≤ length first
    long = simp (length-append, length_word) (omega arith)

    seen : count_leading_zeros 32 ((2 ^ 32 - 1) - ((high * 256 + middle) * 256 + low) * 2 ^ (8 + s) % 2 ^ 32) ≡ lead first
    seen = shifted 32 (24 - s) (8 + s) ((high * 256 + middle) * 256 + low) (omega arith) ∙ ap lead (three-bytes high middle low s g k (omega arith))

    behind : drop at (bytes (padded l)) ≡ drop at (bytes l) ++ replicate 16 false
    behind = ap (drop at) (padded-bytes l) ∙ drop-append-le at (bytes l) (replicate 16 false) (omega (arith, length_bytes l))

    whole : length (padded l) ≡ length l + 2
    whole = simp length-append

    next : (j k : ℕ) → j ≡ k → j < length (padded l) → drop j (padded l) ≡ get_or l k 0 ∷ drop (suc j) (padded l)
    next j k e b = rw (drop-cons (padded l) j 0 b, padded-at l j, e)

    there : drop at (bytes (padded l)) ≡ first ++ bytes (drop (suc (suc (suc i))) (padded l))
    there =
        let z : at ≡ i * 8 + s = omega arith in
        let e : drop at (bytes (padded l)) ≡ word (8 - s) high ++ bytes (drop (suc i) (padded l)) =
        ap (λ (n : ℕ). drop n (bytes (padded l))) z ∙ bytes-at (padded l) i s (omega (arith, whole)) (omega arith) ∙ rw padded-at in
        e ∙ rw (next (suc i) (i + 1) (omega arith) (omega (arith, whole)), next (suc (suc i)) (i + 2) (omega arith) (omega (arith, whole)), append_assoc, append_assoc)
