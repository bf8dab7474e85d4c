-- BIN, one edge at a time, and A0, one column at a time. Assumes nothing.
use mathlib.Core.Path.{◌≡◌, refl, ap, sym, ◌∙◌}
use mathlib.Core.List.{List, [], ◌∷◌, ◌++◌, append-nil, map}
use Prim.Native.Nat.{ℕ, suc, ◌+◌, ◌-◌, ◌*◌, ◌/◌, ◌%◌, ◌^◌, ◌≤◌, ◌<◌}
use native.Mathlib.Nat.{mul-le-mul, lt_of_lt_of_le, mod-eq_of_lt, one-mul}
use Rattle.std.proofs.Common.{None, Some}
use native.Mathlib.Omega.{arith}
use native.Mathlib.Numerals.{add-one}
use lib.Pow.{pow_mono, pow-lt}
use lib.ListN.{length}
use Rattle.limits.specs.document.Limits.{a_size}
use Rattle.digit_code.specs.document.Code.{sum}
use Rattle.skeleton.specs.document.Skeleton.{IsSkeleton}
use Rattle.edge_list.specs.document.Edges.{Edge, first_end, second_end, before}
use Rattle.adjacency.specs.Mixed.{mixed_le}
use Rattle.adjacency.specs.document.Mixed.{mixed}
use Rattle.adjacency.specs.document.Adjacency.{from, lower, column_sum, bin, powers, a_zero_lem}
use Rattle.adjacency.specs.Lower.{lower-none, lower-all}
use Rattle.adjacency.specs.Power.{pows}
use Rattle.adjacency.specs.Taken.{columns-below, a_range}
use Rattle.adjacency.specs.Parts.{Gives}
use Rattle.adjacency.proofs.Search.{lower-next}

-- ---- the machine's 2^k

pub shift_one : {k : ℕ} → k < 64 → (1 * 2 ^ k) % 2 ^ 64 ≡ 2 ^ k
shift_one {k} h = rw one-mul (mod-eq_of_lt (pow-lt h))

-- ---- BIN

bits-append : (l m : List ℕ) → column_sum (l ++ m) ≡ column_sum l + column_sum m
unfolding column_sum sum
bits-append [] m = omega arith
bits-append (x ∷ l) m = let e = bits-append l m in omega arith

bits-one : (u : ℕ) → column_sum (u ∷ []) ≡ 2 ^ (u - 1)
unfolding column_sum sum
bits-one u = omega arith

bits_none : column_sum [] ≡ 0
unfolding column_sum sum
bits_none = refl

-- b is what the edges before p give
pub record Summed (E : List ℕ) (v p b : ℕ) : Type 0 where
  pub is : b ≡ column_sum (lower (before E p) v)
  pub small : b + 1024 ≤ 1024 * p

pub summed_none : (E : List ℕ) (v : ℕ) → Summed E v 1 0
summed_none E v = record { is = rw (lower-none E v) (sym bits_none); small = omega arith }

pub power_small : {u : ℕ} → u ≤ a_size → 2 ^ (u - 1) ≤ 1024
power_small {u} h = pow_mono (let k : u - 1 ≤ 10 = omega arith in k)

module _ {E : List ℕ} {v p b : ℕ} (s : Summed E v p b) (h : Edge E p) where
  pub summed_miss : Gives (first_end E p) (second_end E p) v None → Summed E v (p + 1) b
  summed_miss d = record { is = s.is ∙ sym (ap column_sum (lower-next E p v h d ∙ rw append-nil)); small = omega (arith, s.small) }

  pub summed_hit : {u : ℕ} → Gives (first_end E p) (second_end E p) v (Some u) → v ≤ a_size → Summed E v (p + 1) (b + 2 ^ (u - 1))
  summed_hit {u} d l =
      record {
        is = rw (lower-next E p v h d.0, bits-append, bits-one u, ← s.is);
        small = omega (arith, s.small, power_small (let j : u ≤ a_size = omega (arith, d.2) in j));
      }

pub summed_all : {E : List ℕ} {v p b : ℕ} → Summed E v p b → length E / 2 < p → b ≡ column_sum (lower E v)
summed_all {E} {v} {p} s h = s.is ∙ ap column_sum (lower-all E p v (omega arith))

-- ---- A0

pub rows_few : {N : ℕ} → N ≤ a_size → N * (N - 1) ≤ 110
rows_few {N} h = mul-le-mul h (let k : N - 1 ≤ 10 = omega arith in k)

-- x is what the columns before i make
pub record Rated (N : ℕ) (E : List ℕ) (i x : ℕ) : Type 0 where
  pub low : 1 ≤ i
  pub is : mixed x (pows i (N - i)) (map (bin E) (from i (N - i))) ≡ a_zero_lem N E

pub rated_none : (N : ℕ) (E : List ℕ) → Rated N E 1 0
unfolding a_zero_lem powers
rated_none N E = record { low = omega arith; is = refl }

rated_more : {N : ℕ} {E : List ℕ} {i x : ℕ} → Rated N E i x → i < N → Rated N E (i + 1) (x * 2 ^ i + bin E i)
unfolding mixed from
rated_more {N} {E} {i} {x} r h =
    let e : N - i ≡ suc (N - (i + 1)) = omega arith in
    record { low = omega arith; is = rw (add-one i) (rw (e, add-one i) at r.is) }

rated_fits : {R N : ℕ} {E : List ℕ} {i x : ℕ} → IsSkeleton a_size R N E → Rated N E i x → x < 2 ^ 55
rated_fits {N = N} {E} {i} {x} s r =
    let a = mixed_le x (columns-below s i (N - i)) in
    let k : N * (N - 1) / 2 ≤ 55 = omega (arith, rows_few s.few) in
    let b = lt_of_lt_of_le (a_range s) (pow_mono k) in
    omega (arith, r.is)

pub rated_all : {N : ℕ} {E : List ℕ} {i x : ℕ} → Rated N E i x → N ≤ i → x ≡ a_zero_lem N E
unfolding mixed from
rated_all {N} {i = i} r h = let e : N - i ≡ 0 = omega arith in rw e at r.is

-- one column more, as the machine has it
pub rated_next :
    {R N : ℕ} {E : List ℕ} {i x b : ℕ} → IsSkeleton a_size R N E → Rated N E i x → i < N → b ≡ column_sum (lower E (i + 1))
    → Rated N E (i + 1) ((x * 2 ^ i) % 2 ^ 64 + b) × ((x * 2 ^ i) % 2 ^ 64 + b < 2 ^ 55)
rated_next {N = N} {E} {i} {x} {b} s r h e =
    let f : bin E i ≡ b = rw (← add-one i) (sym e) in
    let m = rated_more r h in
    let l = rated_fits s m in
    let k : x * 2 ^ i < 2 ^ 64 = omega arith in
    rw (mod-eq_of_lt k, ← f) (m, l)
