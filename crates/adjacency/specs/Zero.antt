-- 0A and its CAM, both ways: the bases are 2, 3, .., and their product is (N-1)!. Assumes nothing.
use Rattle.std.specs.Prelude.{◌≡◌, refl, List, [], ◌∷◌, map, ℕ, zero, suc, ◌+◌, ◌-◌, ◌*◌, ◌≤◌, ◌<◌, length}
use Rattle.std.proofs.Common.{ap, ap₂, sym, ◌∙◌, mul-one, one-mul, mul_assoc, mul_comm, arith}
use Rattle.adjacency.specs.Mixed.{product, Below, Positive, digits-mixed, digits-below, mixed_lt, from-digits}
use Rattle.adjacency.specs.document.Mixed.{mixed, mixed_digits}
use Rattle.adjacency.specs.document.Adjacency.{from, zero_a_lem, factorial, zero_cam_lem}
use Rattle.adjacency.specs.Entries.{Entries, none, more}

-- what is added for each entry
abbrev pub less : List ℕ → List ℕ
less X = map (λ x. x - 1) X

-- ---- the bases

pub from_length : (i n : ℕ) → length (from i n) ≡ n
unfolding from
from_length i zero = refl
from_length i (suc n) = ap suc (from_length (suc i) n)

from_positive : (i n : ℕ) → 1 ≤ i → Positive (from i n)
unfolding from
from_positive i zero h = Positive.none
from_positive i (suc n) h = Positive.more h (from_positive (suc i) n (omega arith))

factorial-from : (i n : ℕ) → factorial i * product (from (suc i) n) ≡ factorial (i + n)
unfolding from product factorial
factorial-from i zero = let e : i + 0 ≡ i = omega arith in rw (e, mul-one)
factorial-from i (suc n) =
    let e : i + suc n ≡ suc i + n = omega arith in
    rw (e, ← factorial-from (suc i) n) (sym (mul_assoc (factorial i) (suc i) _) ∙ ap (λ x. x * product (from (suc (suc i)) n)) (mul_comm (factorial i) (suc i)))

factorial_zero : factorial 0 ≡ 1
unfolding factorial
factorial_zero = refl

factorial-one : factorial 1 ≡ 1
unfolding factorial
factorial-one = refl

product-from : (n : ℕ) → product (from 2 n) ≡ factorial (suc n)
product-from n =
    let e : 1 + n ≡ suc n = omega arith in
    sym (one-mul (product (from 2 n))) ∙ (rw (factorial-one, e) at (factorial-from 1 n))

-- ---- entries and digits

pub below-entries : {i : ℕ} {X : List ℕ} → Entries i X → Below (from i (length X)) (less X)
unfolding from
below-entries none = Below.none
below-entries (more {i} {x} a b k) = let l : x - 1 < i = omega arith in Below.more l (below-entries k)

entries_below : (i n : ℕ) (ds : List ℕ) → Below (from i n) ds → Entries i (map suc ds)
unfolding from
entries_below i zero [] h = none
entries_below i (suc n) (d ∷ ds) (Below.more l h) =
    let low : 1 ≤ suc d = omega arith in
    more low l (entries_below (suc i) n ds h)
entries_below i zero (d ∷ ds) h = elim h [ ]
entries_below i (suc n) [] h = elim h [ ]

suc_less : {i : ℕ} {X : List ℕ} → Entries i X → map suc (less X) ≡ X
suc_less none = refl
suc_less (more {x = x} a b k) = ap₂ (λ y l. y ∷ l) (let e : suc (x - 1) ≡ x = omega arith in e) (suc_less k)

less_suc : (ds : List ℕ) → less (map suc ds) ≡ ds
less_suc [] = refl
less_suc (d ∷ ds) = ap₂ (λ y l. y ∷ l) (let e : suc d - 1 ≡ d = omega arith in e) (less_suc ds)

pub length-map : (f : ℕ → ℕ) (l : List ℕ) → length (map f l) ≡ length l
length-map f [] = refl
length-map f (x ∷ l) = ap suc (length-map f l)

pub digits_length : (bs : List ℕ) (x : ℕ) → length (mixed_digits bs x) ≡ length bs
unfolding mixed_digits
digits_length [] x = refl
digits_length (b ∷ bs) x = ap suc (digits_length bs x)

-- ---- the CAM of a 0A

pub zero_length : (N x : ℕ) → length (zero_cam_lem N x) ≡ N - 1
unfolding zero_cam_lem
zero_length zero x = refl
zero_length (suc zero) x = refl
zero_length (suc (suc n)) x =
    let e = length-map suc (mixed_digits (from 2 n) x) ∙ digits_length (from 2 n) x ∙ from_length 2 n in omega arith

pub zero_entries : (N x : ℕ) → Entries 1 (zero_cam_lem N x)
unfolding zero_cam_lem
zero_entries zero x = none
zero_entries (suc zero) x = none
zero_entries (suc (suc n)) x = let h : 1 ≤ 1 = omega arith in more h h (entries_below 2 n _ (digits-below x (from_positive 2 n (omega arith))))

-- ---- both ways

pub zero_range : (c : List ℕ) → Entries 1 c → zero_a_lem c < factorial (length c)
unfolding zero_a_lem mixed from
zero_range [] k = omega (arith, factorial_zero)
zero_range (x ∷ X) (more a b k) = rw (← product-from (length X)) (rw one-mul at (mixed_lt 0 (below-entries k)))

pub zero_again : (c : List ℕ) → Entries 1 c → zero_cam_lem (suc (length c)) (zero_a_lem c) ≡ c
unfolding zero_a_lem zero_cam_lem
zero_again [] k = refl
zero_again (x ∷ X) (more a b k) = rw (digits-mixed 0 (below-entries k), suc_less k) (let e : 1 ≡ x = omega arith in ap (λ y. y ∷ X) e)

pub zero_back : (N x : ℕ) → x < factorial (N - 1) → zero_a_lem (zero_cam_lem N x) ≡ x
unfolding zero_a_lem zero_cam_lem factorial from mixed
zero_back zero x h = omega arith
zero_back (suc zero) x h = omega arith
zero_back (suc (suc n)) x h =
    let e : suc (suc n) - 1 ≡ suc n = omega arith in
    let l = rw e at h in
    rw (less_suc (mixed_digits (from 2 n) x), length-map, digits_length, from_length) (from-digits (from_positive 2 n (omega arith)) (rw (product-from n) l))
