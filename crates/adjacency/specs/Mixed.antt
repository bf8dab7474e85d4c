-- Laws of a number in a mixed base, for any list of bases; what it is stands in `document.Mixed`.
--
-- In order: digits of a number give it back; a number has digits; their range. What the bases are stands in `document.Adjacency`.
-- Assumes nothing.
use Rattle.std.specs.Prelude.{◌≡◌, refl, List, [], ◌∷◌, ℕ, suc, ◌+◌, ◌*◌, ◌≤◌, ◌<◌}
use Rattle.std.proofs.Common.{ap₂, div-add-mod', mod-lt, mul_assoc, mul-le-mul_left, mul-le-mul_right, lt_of_lt_of_le, div-lt_iff_lt-mul, one-mul, suc-mul, arith}
use Rattle.std.proofs.Math.Arith.{digits_div, digits_mod, lt-one}
use Rattle.adjacency.specs.document.Mixed.{quotient, mixed, mixed_digits}

unfoldable pub product : List ℕ → ℕ
product [] = 1
product (b ∷ bs) = b * product bs

-- a digit for each base, and below it
pub data Below : List ℕ → List ℕ → Type 0 where
  none : Below [] []
  more : {b d : ℕ} {bs ds : List ℕ} → d < b → Below bs ds → Below (b ∷ bs) (d ∷ ds)

-- no base is 0
pub data Positive : List ℕ → Type 0 where
  none : Positive []
  more : {b : ℕ} {bs : List ℕ} → 0 < b → Positive bs → Positive (b ∷ bs)

-- ---- the digits of the number that digits make

quotient-mixed : {bs ds : List ℕ} (a : ℕ) → Below bs ds → quotient bs (mixed a bs ds) ≡ a
unfolding quotient mixed
quotient-mixed a Below.none = refl
quotient-mixed a (Below.more {b} {d} l h) = rw (quotient-mixed (a * b + d) h) (digits_div a l)

pub digits-mixed : {bs ds : List ℕ} (a : ℕ) → Below bs ds → mixed_digits bs (mixed a bs ds) ≡ ds
unfolding mixed_digits mixed
digits-mixed a Below.none = refl
digits-mixed a (Below.more {b} {d} l h) = ap₂ (λ x y. x ∷ y) (rw (quotient-mixed (a * b + d) h) (digits_mod a l)) (digits-mixed (a * b + d) h)

-- ---- the number that the digits of a number make

mixed-digits : (bs : List ℕ) (v : ℕ) → mixed (quotient bs v) bs (mixed_digits bs v) ≡ v
unfolding quotient mixed_digits mixed
mixed-digits [] v = refl
mixed-digits (b ∷ bs) v = rw (div-add-mod' (quotient bs v) b) (mixed-digits bs v)

pub digits-below : {bs : List ℕ} (v : ℕ) → Positive bs → Below bs (mixed_digits bs v)
unfolding mixed_digits
digits-below v Positive.none = Below.none
digits-below v (Positive.more {bs = bs} l p) = Below.more (mod-lt (quotient bs v) l) (digits-below v p)

-- ---- the range

pub mixed_lt : {bs ds : List ℕ} (a : ℕ) → Below bs ds → mixed a bs ds < suc a * product bs
unfolding mixed product
mixed_lt a Below.none = omega arith
mixed_lt a (Below.more {b} {d} {bs} l h) =
    let fits : suc (a * b + d) ≤ suc a * b = rw suc-mul (omega arith) in
    rw (← mul_assoc (suc a) b (product bs)) (lt_of_lt_of_le (mixed_lt (a * b + d) h) (mul-le-mul_right (product bs) fits))

quotient_lt : {bs : List ℕ} (c v : ℕ) → Positive bs → v < c * product bs → quotient bs v < c
unfolding quotient product
quotient_lt c v Positive.none h = omega arith
quotient_lt c v (Positive.more {b} {bs} l p) h = (div-lt_iff_lt-mul l).1 (quotient_lt (c * b) v p (rw mul_assoc h))

quotient-none : {bs : List ℕ} {v : ℕ} → Positive bs → v < product bs → quotient bs v ≡ 0
quotient-none {bs} {v} p h = lt-one (quotient_lt 1 v p (rw one-mul h))

-- every number of the range is that of its digits
pub from-digits : {bs : List ℕ} {v : ℕ} → Positive bs → v < product bs → mixed 0 bs (mixed_digits bs v) ≡ v
from-digits {bs} {v} p h = rw (quotient-none p h) at (mixed-digits bs v)

-- values only grow on the way
pub mixed_le : {bs ds : List ℕ} (a : ℕ) → Below bs ds → a ≤ mixed a bs ds
unfolding mixed
mixed_le a Below.none = omega arith
mixed_le a (Below.more {b} {d} l h) =
    let step : a * 1 ≤ a * b = mul-le-mul_left a (omega arith) in
    let rest = mixed_le (a * b + d) h in
    omega arith
