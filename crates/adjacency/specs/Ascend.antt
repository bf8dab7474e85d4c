-- The rows of a column in ascending order, and the number that they make: the rows of that number are those rows again, and the number
-- of a number's rows is that number.
--
-- In order: ascending lists; numbers made with the lowest row r; there and back; any list put in ascending order. Assumes nothing.
use Rattle.std.specs.Prelude.{◌≡◌, refl, List, [], ◌∷◌, ℕ, zero, suc, ◌+◌, ◌-◌, ◌*◌, ◌/◌, ◌%◌, ◌^◌, ◌≤◌, ◌<◌, length}
use Rattle.std.proofs.Common.{ap, ◌∙◌, pow-suc, arith}
use Rattle.std.proofs.Math.Decide.{ℕ_discrete}
use Rattle.std.specs.Int.Count.{ones, ones_step}
use Rattle.digit_code.specs.document.Code.{sum}
use Rattle.adjacency.specs.document.Adjacency.{column_sum, put, rows}

-- ascending, from r up and below t
pub data Asc (t : ℕ) : ℕ → List ℕ → Type 0 where
  none : {r : ℕ} → Asc t r []
  more : {r x : ℕ} {S : List ℕ} → r ≤ x → x < t → Asc t (suc x) S → Asc t r (x ∷ S)

asc_from : {t q r : ℕ} {S : List ℕ} → q ≤ r → Asc t r S → Asc t q S
asc_from h none = none
asc_from {q = q} h (more {r} {x} a b s) = let k : q ≤ x = omega arith in more k b s

-- ---- the number

-- 2^(x-r), added up
part : ℕ → List ℕ → ℕ
part r [] = 0
part r (x ∷ S) = 2 ^ (x - r) + part r S

part-bits : (S : List ℕ) → column_sum S ≡ part 1 S
unfolding part column_sum sum
part-bits [] = refl
part-bits (x ∷ S) = ap (λ y. 2 ^ (x - 1) + y) (part-bits S)

part_double : {t q : ℕ} {S : List ℕ} (r : ℕ) → suc r ≤ q → Asc t q S → part r S ≡ 2 * part (suc r) S
unfolding part
part_double r h none = refl
part_double r h (more {x = x} {S} a b s) =
    let e : x - r ≡ suc (x - suc r) = omega arith in
    let rest = part_double r (let k : suc r ≤ suc x = omega arith in k) s in
    rw (e, pow-suc 2 (x - suc r)) (omega arith)

part_here : {t : ℕ} {S : List ℕ} (r : ℕ) → Asc t (suc r) S → part r (r ∷ S) ≡ 2 * part (suc r) S + 1
unfolding part
part_here r s =
    let e : r - r ≡ 0 = omega arith in
    let d = part_double r (let k : suc r ≤ suc r = omega arith in k) s in
    rw e (omega arith)

-- ---- the rows of the number

pub put-none : {b : ℕ} (r : ℕ) (l : List ℕ) → b ≡ 0 → put b r l ≡ l
put-none r l e = rw e

pub put_one : {b : ℕ} (r : ℕ) (l : List ℕ) → b ≡ 1 → put b r l ≡ r ∷ l
put_one r l e = rw e

rows-part : (r k : ℕ) (S : List ℕ) → Asc (r + k) r S → rows r k (part r S) ≡ S
unfolding rows part
rows-part r zero [] s = refl
rows-part r zero (x ∷ S) (more a b s) = absurd (let n : ⊥ = omega arith in n)
rows-part r (suc k) [] s = rows-part (suc r) k [] none
rows-part r (suc k) (x ∷ S) (more a b s) = step (ℕ_discrete r x) (λ T. rows-part (suc r) k T)
  where
    up : r + suc k ≡ suc r + k
    up = omega arith

    step : Dec (r ≡ x) → ((T : List ℕ) → Asc (suc r + k) (suc r) T → rows (suc r) k (part (suc r) T) ≡ T) → rows r (suc k) (part r (x ∷ S)) ≡ x ∷ S
    step (yes e) rest =
        let s' : Asc (r + suc k) (suc r) S = rw (← e) at s in
        let n = part_here r s' in
        let m : part r (r ∷ S) % 2 ≡ 1 = omega arith in
        let d : part r (r ∷ S) / 2 ≡ part (suc r) S = omega arith in
        rw (← e) (put_one r _ m ∙ ap (λ l. r ∷ l) (rw d (rest S (rw (← up) s'))))
    step (no n) rest =
        let l : suc r ≤ x = omega arith in
        let s' : Asc (r + suc k) (suc r) (x ∷ S) = more l b s in
        let h = part_double r (let z : suc r ≤ suc r = omega arith in z) s' in
        let m : part r (x ∷ S) % 2 ≡ 0 = omega arith in
        let d : part r (x ∷ S) / 2 ≡ part (suc r) (x ∷ S) = omega arith in
        put-none r _ m ∙ rw d (rest (x ∷ S) (rw (← up) s'))

part_lt : (r k : ℕ) (S : List ℕ) → Asc (r + k) r S → part r S < 2 ^ k
unfolding part
part_lt r zero [] s = omega arith
part_lt r zero (x ∷ S) (more a b s) = absurd (let n : ⊥ = omega arith in n)
part_lt r (suc k) [] s = let h = part_lt (suc r) k [] none in rw (pow-suc 2 k) (omega arith)
part_lt r (suc k) (x ∷ S) (more a b s) = step (ℕ_discrete r x) (λ T. part_lt (suc r) k T)
  where
    up : r + suc k ≡ suc r + k
    up = omega arith

    step : Dec (r ≡ x) → ((T : List ℕ) → Asc (suc r + k) (suc r) T → part (suc r) T < 2 ^ k) → part r (x ∷ S) < 2 ^ suc k
    step (yes e) rest =
        let s' : Asc (r + suc k) (suc r) S = rw (← e) at s in
        let h = rest S (rw (← up) s') in
        rw (← e, part_here r s', pow-suc 2 k) (omega arith)
    step (no n) rest =
        let l : suc r ≤ x = omega arith in
        let s' : Asc (r + suc k) (suc r) (x ∷ S) = more l b s in
        let h = rest (x ∷ S) (rw (← up) s') in
        rw (part_double r (let z : suc r ≤ suc r = omega arith in z) s', pow-suc 2 k) (omega arith)

-- ---- the number of the rows

pub rows_asc : (r k b : ℕ) → Asc (r + k) r (rows r k b)
unfolding rows
rows_asc r zero b = none
rows_asc r (suc k) b = step (b % 2) (let e : suc r + k ≡ r + suc k = omega arith in rw e at (rows_asc (suc r) k (b / 2)))
  where
    step : (m : ℕ) → Asc (r + suc k) (suc r) (rows (suc r) k (b / 2)) → Asc (r + suc k) r (put m r (rows (suc r) k (b / 2)))
    step zero s = asc_from (omega arith) s
    step (suc m) s = let l : r ≤ r = omega arith in let h : r < r + suc k = omega arith in more l h s

part-rows : (r k b : ℕ) → b < 2 ^ k → part r (rows r k b) ≡ b
unfolding rows part
part-rows r zero b h = omega arith
part-rows r (suc k) b h = step (b % 2) refl (part-rows (suc r) k (b / 2) (let l = rw (pow-suc 2 k) at h in omega arith))
  where
    asc : Asc (suc r + k) (suc r) (rows (suc r) k (b / 2))
    asc = rows_asc (suc r) k (b / 2)

    step : (m : ℕ) → b % 2 ≡ m → part (suc r) (rows (suc r) k (b / 2)) ≡ b / 2 → part r (put m r (rows (suc r) k (b / 2))) ≡ b
    step zero e rest = let d = part_double r (let z : suc r ≤ suc r = omega arith in z) asc in omega arith
    step (suc m) e rest = let d = part_here r asc in omega arith

-- ---- with the lowest row 1

pub rows-bits : (k : ℕ) (S : List ℕ) → Asc (suc k) 1 S → rows 1 k (column_sum S) ≡ S
rows-bits k S s = rw (part-bits S) (rows-part 1 k S (let e : 1 + k ≡ suc k = omega arith in rw e s))

pub bits_lt : (k : ℕ) (S : List ℕ) → Asc (suc k) 1 S → column_sum S < 2 ^ k
bits_lt k S s = rw (part-bits S) (part_lt 1 k S (let e : 1 + k ≡ suc k = omega arith in rw e s))

pub bits-rows : (k b : ℕ) → b < 2 ^ k → column_sum (rows 1 k b) ≡ b
bits-rows k b h = part-bits (rows 1 k b) ∙ part-rows 1 k b h

-- each one of the number is a row
pub rows_ones : (r k b : ℕ) → b < 2 ^ k → length (rows r k b) ≡ ones b
unfolding rows ones
rows_ones r zero b h = let e : b ≡ 0 = omega arith in rw e refl
rows_ones r (suc k) b h = step (b % 2) refl (rows_ones (suc r) k (b / 2) (let l = rw (pow-suc 2 k) at h in omega arith))
  where
    step : (m : ℕ) → b % 2 ≡ m → length (rows (suc r) k (b / 2)) ≡ ones (b / 2) → length (put m r (rows (suc r) k (b / 2))) ≡ ones b
    step zero e rest = let o = ones_step b in omega arith
    step (suc m) e rest = let o = ones_step b in omega arith
