-- A0's bases 2, 4, .., and what its digits, the columns, are worth: their range, and a one for each row. Assumes nothing.
use Rattle.std.specs.Prelude.{◌≡◌, refl, List, [], ◌∷◌, map, ℕ, zero, suc, ◌+◌, ◌-◌, ◌*◌, ◌/◌, ◌^◌, ◌<◌, length, get_or}
use Rattle.std.proofs.Common.{ap, sym, ◌∙◌, suc-mul, mul_comm, arith, pow_pos, pow-add, length-append}
use Rattle.std.specs.Int.Count.{ones}
use Rattle.std.proofs.lemmas.Nat.{ones_cat}
use Rattle.digit_code.specs.document.Code.{sum}
use Rattle.adjacency.specs.Mixed.{product, Below, Positive}
use Rattle.adjacency.specs.document.Mixed.{mixed}
use Rattle.adjacency.specs.document.Adjacency.{from, powers, rows, tied, columns}
use Rattle.adjacency.specs.Ascend.{rows_ones}

-- 2^i, 2^(i+1), .., n of them
abbrev pub pows : ℕ → ℕ → List ℕ
pows i n = map (λ i. 2 ^ i) (from i n)

pub pows_positive : (i n : ℕ) → Positive (pows i n)
unfolding from
pows_positive i zero = Positive.none
pows_positive i (suc n) = Positive.more (pow_pos i) (pows_positive (suc i) n)

pub pows-at : (i n j : ℕ) → j < n → get_or (pows i n) j 0 ≡ 2 ^ (i + j)
unfolding from
pows-at i zero j h = absurd (let n : ⊥ = omega arith in n)
pows-at i (suc n) zero h = let e : i + 0 ≡ i = omega arith in rw e
pows-at i (suc n) (suc j) h = let e : i + suc j ≡ suc i + j = omega arith in rw e (pows-at (suc i) n j (omega arith))

pub below_at : {bs ds : List ℕ} → Below bs ds → (j : ℕ) → j < length ds → get_or ds j 0 < get_or bs j 0
below_at Below.none j h = absurd (let n : ⊥ = omega arith in n)
below_at (Below.more l b) zero h = l
below_at (Below.more l b) (suc j) h = below_at b j (omega arith)

-- ---- the range

pub product-pows : (i n : ℕ) → product (pows i n) ≡ 2 ^ sum (from i n)
unfolding product from sum
product-pows i zero = refl
product-pows i (suc n) = rw (product-pows (suc i) n) (sym (pow-add 2 i (sum (from (suc i) n))))

sum-from : (i n : ℕ) → 2 * sum (from (suc i) n) + i * suc i ≡ (i + n) * suc (i + n)
unfolding from sum
sum-from i zero = let e : i + 0 ≡ i = omega arith in rw e (omega arith)
sum-from i (suc n) =
    let e : i + suc n ≡ suc i + n = omega arith in
    let m : suc i * suc (suc i) ≡ i * suc i + suc i + suc i = mul_comm (suc i) (suc (suc i)) ∙ suc-mul (suc i) (suc i) ∙ ap (λ x. x + suc i) (suc-mul i (suc i)) in
    let r = sum-from (suc i) n in
    rw e (omega arith)

pub sum_rows : (N : ℕ) → sum (from 1 (N - 1)) ≡ N * (N - 1) / 2
unfolding from sum
sum_rows zero = refl
sum_rows (suc n) =
    let e : suc n - 1 ≡ n = omega arith in
    let z : 0 + n ≡ n = omega arith in
    let s = rw z at (sum-from 0 n) in
    let c = mul_comm n (suc n) in
    rw e (omega arith)

pub product-powers : (N : ℕ) → product (powers N) ≡ 2 ^ (N * (N - 1) / 2)
unfolding powers
product-powers N = product-pows 1 (N - 1) ∙ ap (λ k. 2 ^ k) (sum_rows N)

-- ---- the ones

pub tied_length : (v : ℕ) (rs : List ℕ) → length (tied v rs) ≡ 2 * length rs
unfolding tied
tied_length v [] = refl
tied_length v (r ∷ rs) = let e = tied_length v rs in omega arith

-- each one makes an edge
pub ones_columns : (i n : ℕ) (ds : List ℕ) → Below (pows i n) ds → (a : ℕ) → 2 * ones (mixed a (pows i n) ds) ≡ 2 * ones a + length (columns i ds)
unfolding from mixed columns
ones_columns i zero [] b a = omega arith
ones_columns i (suc n) (d ∷ ds) (Below.more l b) a =
    let r = ones_columns (suc i) n ds b (a * 2 ^ i + d) in
    let o = ones_cat i a d l in
    let k = rows_ones 1 i d l in
    let t = tied_length (suc i) (rows 1 i d) in
    rw length-append (omega arith)
ones_columns i zero (d ∷ ds) b a = elim b [ ]
ones_columns i (suc n) [] b a = elim b [ ]
