-- Digits and bits, both ways: reading the bits of digits gives the digits, and the digits read are the input's.
--
-- In order: reading what was written; the bits begin with the digits read; what follows a code's end; one code. Here is no word of
-- what may follow: each law holds for every form. Assumes nothing.
use Rattle.std.specs.Prelude.{◌≡◌, refl, Bool, true, false, List, [], ◌∷◌, ◌++◌, ℕ, zero, suc, ◌+◌, ◌-◌, ◌*◌, ◌≤◌, length, take, drop, replicate}
use Rattle.std.proofs.Common.{sym, ap, ◌∙◌, append_assoc, zero-add, add-zero, add-suc, suc-add, arith, length-append, length-take-le}
use Rattle.std.proofs.lemmas.List.{length-replicate}
use Rattle.std.proofs.Math.Seq.{take-append_seam, drop-append_seam, take-length}
use Rattle.digit_code.specs.document.Code.{sum, EndsAt}
use Rattle.digit_code.specs.Counting.{one_end}
use Rattle.bits.specs.document.Bits.{bits, digits_from, cut_from, whole_digits, after}
use Rattle.bits.specs.Ends.{end-sum, ends_more}

-- ones and a zero behind n ones that are passed make one digit
one-digit : (n k : ℕ) (bs : List Bool) → digits_from n (replicate k true ++ (false ∷ bs)) ≡ (n + k) ∷ whole_digits bs
unfolding digits_from
one-digit n zero bs = rw add-zero
one-digit n (suc k) bs = one-digit (suc n) k bs ∙ rw (suc-add, add-suc)

one_cut : (n k : ℕ) (bs : List Bool) → cut_from n (replicate k true ++ (false ∷ bs)) ≡ cut_from 0 bs
unfolding cut_from
one_cut n zero bs = refl
one_cut n (suc k) bs = one_cut (suc n) k bs

-- ones alone make none
pub no_digit : (n k : ℕ) → digits_from n (replicate k true) ≡ []
unfolding digits_from
no_digit n zero = refl
no_digit n (suc k) = no_digit (suc n) k

-- reading the bits of digits gives the digits, and then those of what follows
pub read-bits : (ds : List ℕ) (bs : List Bool) → whole_digits (bits ds ++ bs) ≡ ds ++ whole_digits bs
unfolding bits
read-bits [] bs = refl
read-bits (k ∷ ds) bs = rw (append_assoc, one-digit 0 k (bits ds ++ bs), zero-add, read-bits ds bs)

pub cut_bits : (ds : List ℕ) (bs : List Bool) → cut_from 0 (bits ds ++ bs) ≡ cut_from 0 bs
unfolding bits
cut_bits [] bs = refl
cut_bits (k ∷ ds) bs = rw (append_assoc, one_cut 0 k (bits ds ++ bs), cut_bits ds bs)

pub bits-append : (ds es : List ℕ) → bits (ds ++ es) ≡ bits ds ++ bits es
unfolding bits
bits-append [] es = refl
bits-append (k ∷ ds) es = rw (append_assoc, bits-append ds es)

-- as many zeros as digits, and as many ones as they add up to
pub length_bits : (ds : List ℕ) → length (bits ds) ≡ length ds + sum ds
unfolding bits sum
length_bits [] = refl
length_bits (k ∷ ds) = simp (length-append, length-replicate) (omega (arith, length_bits ds))

-- the bits begin with those of the digits
record Begins (bs : List Bool) (ds : List ℕ) : Type 0 where
  rest : List Bool
  same : bs ≡ bits ds ++ rest

ones_more : (n : ℕ) (bs : List Bool) → replicate n true ++ (true ∷ bs) ≡ true ∷ (replicate n true ++ bs)
ones_more zero bs = refl
ones_more (suc n) bs = ap {B = List Bool} (λ l. true ∷ l) (ones_more n bs)

front : (n : ℕ) (bs : List Bool) (e : ℕ) → e ≤ length (digits_from n bs) → Begins (replicate n true ++ bs) (take e (digits_from n bs))
unfolding bits digits_from
front n bs zero h = record { rest = replicate n true ++ bs; same = refl }
front n [] (suc e) h = absurd (omega (arith, h))
front n (true ∷ bs) (suc e) h = rw ones_more (front (suc n) bs (suc e) h)
front n (false ∷ bs) (suc e) h =
    let r = front 0 bs e (omega arith) in
    record { rest = r.rest; same = rw append_assoc (ap {B = List Bool} (λ l. replicate n true ++ (false ∷ l)) r.same) }

-- the first e whole digits that are read are the input's
begins : (bs : List Bool) (e : ℕ) → e ≤ length (whole_digits bs) → bs ≡ bits (take e (whole_digits bs)) ++ drop (e + sum (take e (whole_digits bs))) bs
begins bs e h =
    let r = front 0 bs e h in
    let c = take e (whole_digits bs) in
    let z : drop (length (bits c)) bs ≡ r.rest = ap (drop (length (bits c))) r.same ∙ drop-append_seam (bits c) r.rest in
    let n : length (bits c) ≡ e + sum c = length_bits c ∙ rw length-take-le in
    rw (← n, z) r.same

-- what follows the code's end stands behind the code's bits
pub after-end : {bs : List Bool} {e : ℕ} → EndsAt (whole_digits bs) e → bs ≡ bits (take e (whole_digits bs)) ++ after bs e
after-end {bs} {e} h =
    let z : e + sum (take e (whole_digits bs)) ≡ 2 * e - 1 = omega (arith, end-sum (whole_digits bs) e h) in
    rw z at (begins bs e h.within)

-- what stands behind the bits of a code that ends follows its end
pub after-code : (c : List ℕ) (fs : List Bool) → EndsAt c (length c) → after (bits c ++ fs) (length c) ≡ fs
after-code c fs h =
    let z : 2 * length c - 1 ≡ length (bits c) = rw length_bits (omega (arith, rw take-length at (end-sum c (length c) h))) in
    rw (z, drop-append_seam)

-- a code that ends is what its bits, with anything behind them, are read as
pub code_ends : {c : List ℕ} (fs : List Bool) → EndsAt c (length c) → EndsAt (whole_digits (bits c ++ fs)) (length c)
code_ends {c} fs h = rw read-bits (ends_more (whole_digits fs) h)

pub code_read : (c : List ℕ) (fs : List Bool) → take (length c) (whole_digits (bits c ++ fs)) ≡ c
code_read c fs = rw (read-bits, take-append_seam)

-- no other code that ends begins the same bits
pub one_code
    : (c d : List ℕ) (fs gs : List Bool) → EndsAt c (length c) → EndsAt d (length d) → bits c ++ fs ≡ bits d ++ gs → c ≡ d
one_code c d fs gs h g s =
    let z : length c ≡ length d = one_end (code_ends fs h) (rw s (code_ends gs g)) in
    sym (code_read c fs) ∙ rw (s, z) (code_read d gs)
