-- 0A, one entry at a time: forwards from a CAM, and backwards to one. Assumes nothing.
use mathlib.Core.Path.{◌≡◌, refl, ap, sym}
use mathlib.Core.List.{List, ◌∷◌, ◌++◌, append_assoc, map}
use Prim.Native.Nat.{ℕ, zero, suc, ◌+◌, ◌-◌, ◌*◌, ◌/◌, ◌%◌, ◌^◌, ◌≤◌, ◌<◌}
use native.Mathlib.Nat.{suc-mul, mod-one, lt_of_le_of_lt}
use native.Mathlib.Omega.{arith}
use native.Mathlib.Numerals.{add-one}
use lib.Dec.{lit<}
use lib.ListN.{length, get_or, take, drop, set, length-set, length-drop, take-append-drop}
use lib.Seq.{drop-cons, take-suc, set_at, length-take-le}
use Rattle.limits.specs.document.Limits.{zero_size}
use Rattle.laws.specs.document.Laid.{laid_over}
use Rattle.adjacency.specs.Mixed.{mixed_le}
use Rattle.adjacency.specs.document.Mixed.{mixed, quotient, mixed_digits}
use Rattle.adjacency.specs.document.Adjacency.{from, zero_a_lem, factorial, zero_cam_lem}
use Rattle.adjacency.specs.Entries.{Entries, none, more}
use Rattle.adjacency.specs.Zero.{less, below-entries, zero_range, zero_length}

-- ---- the factorial

factorial-rises : (i k : ℕ) → factorial i ≤ factorial (i + k)
unfolding factorial
factorial-rises i zero = let e : i + 0 ≡ i = omega arith in rw e (omega arith)
factorial-rises i (suc k) =
    let e : i + suc k ≡ suc (i + k) = omega arith in
    let r = factorial-rises i k in
    rw (e, suc-mul (i + k) (factorial (i + k))) (omega arith)

factorial_most : factorial 20 < 2 ^ 64
unfolding factorial
factorial_most = lit< tt

pub factorial_fits : {k : ℕ} → k < zero_size → factorial k < 2 ^ 64
factorial_fits {k} h =
    let e : k + (20 - k) ≡ 20 = omega arith in
    lt_of_le_of_lt (rw e at (factorial-rises k (20 - k))) factorial_most

pub factorial-more : (i : ℕ) → (i + 1) * factorial i ≡ factorial (i + 1)
unfolding factorial
factorial-more i = rw add-one

-- ---- forwards

entries_drop : {i : ℕ} {c : List ℕ} → Entries i c → (j : ℕ) → Entries (i + j) (drop j c)
entries_drop {i} k zero = let e : i + 0 ≡ i = omega arith in rw e k
entries_drop none (suc j) = none
entries_drop (more {i} a b k) (suc j) = let e : i + suc j ≡ suc i + j = omega arith in rw e (entries_drop k j)

-- x is what the entries up to i make
pub record Ranked (c : List ℕ) (i x : ℕ) : Type 0 where
  pub low : 1 ≤ i
  pub is : mixed x (from (i + 1) (length c - i)) (less (drop i c)) ≡ zero_a_lem c

pub ranked-none : (c : List ℕ) → Ranked c 1 0
unfolding zero_a_lem
ranked-none c = record { low = omega arith; is = rw (length-drop 1 c) refl }

pub ranked-more : {c : List ℕ} {i x : ℕ} → Ranked c i x → i < length c → Ranked c (i + 1) (x * (i + 1) + (get_or c i 0 - 1))
unfolding mixed from
ranked-more {c} {i} {x} r h =
    let e : length c - i ≡ suc (length c - (i + 1)) = omega arith in
    let f : suc (i + 1) ≡ i + 1 + 1 = omega arith in
    record { low = omega arith; is = rw (add-one i) (rw (e, drop-cons c i 0 h, f, add-one i) at r.is) }

pub ranked_fits : {c : List ℕ} {i x : ℕ} → Entries 1 c → length c < zero_size → Ranked c i x → i ≤ length c → x < 2 ^ 64
ranked_fits {c} {i} {x} k l r h =
    let b = below-entries (entries_drop k i) in
    let e : 1 + i ≡ i + 1 = omega arith in
    let y = mixed_le x (rw (length-drop i c, e) at b) in
    let z = zero_range c k in
    let f = factorial_fits l in
    omega (arith, r.is)

pub ranked-all : {c : List ℕ} {i x : ℕ} → Ranked c i x → length c ≤ i → x ≡ zero_a_lem c
unfolding mixed from
ranked-all {c} {i} {x} r h = let e : length c - i ≡ 0 = omega arith in rw e at r.is

-- ---- backwards

-- the entries from number i on are written, and v is what is left
pub record Unranked (n x : ℕ) (old : List ℕ) (i : ℕ) (out : List ℕ) (v : ℕ) : Type 0 where
  pub low : 1 ≤ i
  pub high : i ≤ n
  pub rest : v ≡ quotient (from i (n - i)) x
  pub long : length out ≡ length old
  pub lies : out ≡ take (i - 1) old ++ (map suc (mixed_digits (from i (n - i)) x) ++ drop (n - 1) old)

pub unranked_none : (n x : ℕ) (old : List ℕ) → 1 ≤ n → Unranked n x old n old x
unfolding quotient mixed_digits from
unranked_none n x old h =
    let e : n - n ≡ 0 = omega arith in
    record { low = h; high = omega arith; rest = rw e refl; long = refl; lies = rw e (sym (take-append-drop (n - 1) old)) }

set_front : (old R : List ℕ) (k y : ℕ) → k < length old → set (take (suc k) old ++ R) k y ≡ take k old ++ (y ∷ R)
set_front old R k y h =
    rw (take-suc old k 0 h, append_assoc) (set_at (take k old) (get_or old k 0) R y k (length-take-le k old (omega arith)))

pub unranked_more :
    {n x : ℕ} {old : List ℕ} {i : ℕ} {out : List ℕ} {v : ℕ} → Unranked n x old i out v → 1 < i → n ≤ length old + 1
    → Unranked n x old (i - 1) (set out (i - 1 - 1) (v % (i - 1) + 1)) (v / (i - 1))
unfolding quotient mixed_digits from
unranked_more {n} {x} {old} {i} {out} {v} u l h =
    let e : n - (i - 1) ≡ suc (n - i) = omega (arith, u.high) in
    let f : suc (i - 1) ≡ i = omega arith in
    let g : i - 1 ≡ suc (i - 1 - 1) = omega arith in
    let lies : out ≡ take (suc (i - 1 - 1)) old ++ (map suc (mixed_digits (from i (n - i)) x) ++ drop (n - 1) old) = rw (← g) u.lies in
    record {
      low = omega arith;
      high = omega (arith, u.high);
      rest = rw (e, f) (ap (λ y. y / (i - 1)) u.rest);
      long = simp length-set u.long;
      lies = rw (e, f, add-one, ← u.rest, lies) (set_front old _ (i - 1 - 1) (suc (v % (i - 1))) (omega (arith, u.high)));
    }

zero-cam : (n x : ℕ) → zero_cam_lem n x ≡ map suc (mixed_digits (from 1 (n - 1)) x)
unfolding zero_cam_lem mixed_digits from
zero-cam zero x = refl
zero-cam (suc zero) x = refl
zero-cam (suc (suc n)) x =
    let e : suc (suc n) - 1 ≡ suc n = omega arith in
    rw e (rw (mod-one (quotient (from 2 n) x)))

pub unranked_all : {n x : ℕ} {old : List ℕ} {i : ℕ} {out : List ℕ} {v : ℕ} → Unranked n x old i out v → i ≤ 1 → out ≡ laid_over (zero_cam_lem n x) old
unfolding laid_over
unranked_all {n} {x} {old} {i} u h =
    let e : i ≡ 1 = omega (arith, u.low) in
    rw (zero_length n x, zero-cam n x) (rw e at u.lies)
