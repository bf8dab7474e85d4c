-- The edges of an A0, column by column: the lower neighbours in them, and that a skeleton's A0 gives its edges. Assumes nothing.
use Rattle.std.specs.Prelude.{◌≡◌, refl, length, get_or}
use Rattle.std.proofs.Common.{ap, ◌∙◌, arith}
use mathlib.Core.List.Permᴰ
use mathlib.Core.List.{List, [], ◌∷◌, ◌++◌, append-nil, map, Permᴰ}
use Prim.Native.Nat.{ℕ, zero, suc, ◌+◌, ◌-◌, ◌*◌, ◌/◌, ◌^◌, ◌≤◌, ◌<◌}
use Rattle.std.proofs.Math.Nat.{one-mul}
use Rattle.std.specs.Int.Count.{ones}
use Rattle.laws.specs.Perms.{front}
use Rattle.skeleton.specs.document.Skeleton.{arcs, IsSkeleton}
use Rattle.adjacency.specs.Mixed.{Below, digits-mixed, digits-below, mixed_lt, from-digits}
use Rattle.adjacency.specs.document.Mixed.{mixed, mixed_digits}
use Rattle.adjacency.specs.document.Adjacency.{from, lower, bin, powers, a_zero_lem, rows, tied, columns, a_edges_lem}
use Rattle.adjacency.specs.Lower.{lower_nil, lower-one, lower_pass}
use Rattle.adjacency.specs.Entries.{map_from}
use Rattle.adjacency.specs.Columns.{by_column, arcs-tied, Plain, none, more, by-column}
use Rattle.adjacency.specs.Plain.{plain}
use Rattle.adjacency.specs.Coded.{lower_in}
use Rattle.adjacency.specs.Zero.{from_length, digits_length, length-map}
use Rattle.adjacency.specs.Ascend.{Asc, rows_asc, rows-bits, bits_lt, bits-rows}
use Rattle.adjacency.specs.Sorted.{Ordered, order, bits_perm}
use Rattle.adjacency.specs.Apart.{once}
use Rattle.adjacency.specs.Power.{pows, pows_positive, pows-at, below_at, product-powers, ones_columns}

-- ---- a skeleton's columns

tied_perm : (v : ℕ) {rs S : List ℕ} → Permᴰ rs S → Permᴰ (arcs (tied v rs)) (arcs (tied v S))
unfolding arcs tied
tied_perm v Permᴰ.nil = Permᴰ.nil
tied_perm v (Permᴰ.cons e d) = Permᴰ.cons (ap (λ x. (x, v)) e) (Permᴰ.cons (ap (λ x. (v, x)) e) (tied_perm v d))
tied_perm v (Permᴰ.swap {a} {b} {l = l} e f) = rw (← e, ← f) (front ((a, v) ∷ (v, a) ∷ []) ((b, v) ∷ (v, b) ∷ []) (arcs (tied v l)))
tied_perm v (Permᴰ.trans d e) = Permᴰ.trans (tied_perm v d) (tied_perm v e)

columns_perm :
    (E : List ℕ) (g : ℕ → ℕ) → ((i : ℕ) → Permᴰ (lower E (suc i)) (rows 1 i (g i))) → (i n : ℕ)
    → Permᴰ (arcs (by_column (lower E) i n)) (arcs (columns i (map g (from i n))))
unfolding by_column columns from
columns_perm E g h i zero = Permᴰ.refl _
columns_perm E g h i (suc n) =
    rw (arcs-tied (suc i) (lower E (suc i)) (by_column (lower E) (suc i) n), arcs-tied (suc i) (rows 1 i (g i)) (columns (suc i) (map g (from (suc i) n))))
    (Permᴰ.trans (Permᴰ.append_right (arcs (by_column (lower E) (suc i) n)) (tied_perm (suc i) (h i))) (Permᴰ.append_left (arcs (tied (suc i) (rows 1 i (g i)))) (columns_perm E g h (suc i) n)))

module _ {most R N : ℕ} {E : List ℕ} (s : IsSkeleton most R N E) where
  sorted : (i : ℕ) → (S : List ℕ) × Ordered (suc i) 1 (lower E (suc i)) S
  sorted i = order (suc i) 1 (lower E (suc i)) (once s (suc i)) (λ w m. lower_in (plain s) (suc i) w m)

  column : (i : ℕ) → Permᴰ (lower E (suc i)) (rows 1 i (bin E i))
  column i = let (S, o) = sorted i in rw (bits_perm o.same, rows-bits i S o.asc) o.same

  column_lt : (i : ℕ) → bin E i < 2 ^ i
  column_lt i = let (S, o) = sorted i in rw (bits_perm o.same) (bits_lt i S o.asc)

  pub columns-below : (i n : ℕ) → Below (pows i n) (map (bin E) (from i n))
  unfolding from
  columns-below i zero = Below.none
  columns-below i (suc n) = Below.more (column_lt i) (columns-below (suc i) n)

  pub a_range : a_zero_lem N E < 2 ^ (N * (N - 1) / 2)
  unfolding a_zero_lem powers
  a_range = rw (← product-powers N) (rw one-mul at (mixed_lt 0 (columns-below 1 (N - 1))))

  a_digits : mixed_digits (powers N) (a_zero_lem N E) ≡ map (bin E) (from 1 (N - 1))
  unfolding a_zero_lem powers
  a_digits = digits-mixed 0 (columns-below 1 (N - 1))

  -- its A0 decodes to its edges
  pub a-edges : Permᴰ (arcs E) (arcs (a_edges_lem N (a_zero_lem N E)))
  unfolding a_edges_lem
  a-edges = rw a_digits (Permᴰ.trans (by-column (plain s)) (columns_perm E (bin E) column 1 (N - 1)))

-- ---- the lower neighbours in columns

lower-tied : {v q : ℕ} {rs : List ℕ} (F : List ℕ) → Asc v q rs → lower (tied v rs ++ F) v ≡ rs ++ lower F v
unfolding tied
lower-tied F Asc.none = refl
lower-tied {v = v} F (Asc.more {x = x} {S} a b s) = lower-one x v (tied v S ++ F) b ∙ ap (λ l. x ∷ l) (lower-tied F s)

lower-other : {v q : ℕ} {rs : List ℕ} (F : List ℕ) (u : ℕ) → (v ≡ u → ⊥) → Asc v q rs → lower (tied v rs ++ F) u ≡ lower F u
unfolding tied
lower-other F u n Asc.none = refl
lower-other {v = v} F u n (Asc.more {x = x} {S} a b s) =
    lower_pass x v u (tied v S ++ F) (λ e. omega arith) (λ e. absurd (n e)) ∙ lower-other F u n s

pub row_asc : (i b : ℕ) → Asc (suc i) 1 (rows 1 i b)
row_asc i b = let e : 1 + i ≡ suc i = omega arith in rw e at (rows_asc 1 i b)

lower-low : (i : ℕ) (bs : List ℕ) (v : ℕ) → v ≤ i → lower (columns i bs) v ≡ []
unfolding columns
lower-low i [] v h = lower_nil v
lower-low i (b ∷ bs) v h = lower-other (columns (suc i) bs) v (λ e. omega arith) (row_asc i b) ∙ lower-low (suc i) bs v (omega arith)

lower-columns : (i : ℕ) (bs : List ℕ) (j : ℕ) → j < length bs → lower (columns i bs) (i + suc j) ≡ rows 1 (i + j) (get_or bs j 0)
unfolding columns
lower-columns i [] j h = absurd (let n : ⊥ = omega arith in n)
lower-columns i (b ∷ bs) zero h =
    let e : i + 1 ≡ suc i = omega arith in
    let f : i + 0 ≡ i = omega arith in
    rw (e, f) (lower-tied (columns (suc i) bs) (row_asc i b) ∙ rw (lower-low (suc i) bs (suc i) (omega arith), append-nil))
lower-columns i (b ∷ bs) (suc j) h =
    let e : i + suc (suc j) ≡ suc i + suc j = omega arith in
    let f : i + suc j ≡ suc i + j = omega arith in
    rw (e, f) (lower-other (columns (suc i) bs) (suc i + suc j) (λ z. omega arith) (row_asc i b) ∙ lower-columns (suc i) bs j (omega arith))

-- ---- back

-- the columns of the edges that digits make are the digits
columns_again : (n : ℕ) (c : List ℕ) → length c ≡ n → Below (pows 1 n) c → map (bin (columns 1 c)) (from 1 n) ≡ c
columns_again n c e b = rw (← e) (map_from (bin (columns 1 c)) 1 c again)
  where
    again : (j : ℕ) → j < length c → bin (columns 1 c) (1 + j) ≡ get_or c j 0
    again j l =
        let z : suc (1 + j) ≡ 1 + suc j = omega arith in
        let k = rw (pows-at 1 n j (omega arith)) at (below_at b j l) in
        rw (z, lower-columns 1 c j l) (bits-rows (1 + j) (get_or c j 0) k)

digits_long : (N x : ℕ) → length (mixed_digits (powers N) x) ≡ N - 1
unfolding powers
digits_long N x = digits_length (pows 1 (N - 1)) x ∙ length-map (λ i. 2 ^ i) (from 1 (N - 1)) ∙ from_length 1 (N - 1)

powers-below : (N x : ℕ) → Below (powers N) (mixed_digits (powers N) x)
unfolding powers
powers-below N x = digits-below x (pows_positive 1 (N - 1))

powers-digits : (N x : ℕ) → x < 2 ^ (N * (N - 1) / 2) → mixed 0 (powers N) (mixed_digits (powers N) x) ≡ x
unfolding powers
powers-digits N x h = from-digits (pows_positive 1 (N - 1)) (rw (product-powers N) h)

pub a_back : (N x : ℕ) → x < 2 ^ (N * (N - 1) / 2) → a_zero_lem N (a_edges_lem N x) ≡ x
unfolding a_zero_lem a_edges_lem powers
a_back N x h = rw (columns_again (N - 1) (mixed_digits (powers N) x) (digits_long N x) (powers-below N x)) (powers-digits N x h)

-- ---- the edges themselves

plain-tied : {N v : ℕ} {rs F : List ℕ} {q : ℕ} → 1 ≤ q → v ≤ N → Asc v q rs → Plain N F → Plain N (tied v rs ++ F)
unfolding tied
plain-tied a h Asc.none p = p
plain-tied {N} {v} {q = q} a h (Asc.more {x = x} k l s) p =
    let low : (1 ≤ x) × (x ≤ N) = omega arith in
    let high : (1 ≤ v) × (v ≤ N) = omega arith in
    let next : 1 ≤ suc x = omega arith in
    more low high (λ e. omega arith) (plain-tied next h s p)

plain-columns : (N i : ℕ) (bs : List ℕ) → i + length bs ≤ N → Plain N (columns i bs)
unfolding columns
plain-columns N i [] h = none
plain-columns N i (b ∷ bs) h =
    let one : 1 ≤ 1 = omega arith in
    let high : suc i ≤ N = omega arith in
    plain-tied one high (row_asc i b) (plain-columns N (suc i) bs (omega arith))

pub a_plain : (N x : ℕ) → 1 ≤ N → Plain N (a_edges_lem N x)
unfolding a_edges_lem
a_plain N x h = plain-columns N 1 (mixed_digits (powers N) x) (omega (arith, digits_long N x))

-- there are as many as ones
pub a_ones : (N x : ℕ) → x < 2 ^ (N * (N - 1) / 2) → length (a_edges_lem N x) ≡ 2 * ones x
unfolding a_edges_lem powers ones
a_ones N x h =
    let e = powers-digits N x h in
    let o = rw e at (ones_columns 1 (N - 1) (mixed_digits (powers N) x) (powers-below N x) 0) in
    omega arith
