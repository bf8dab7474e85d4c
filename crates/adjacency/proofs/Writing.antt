-- Numbers written one behind the other from the start of an output. Assumes nothing.
use mathlib.Core.Path.{◌≡◌, refl, ap, sym, ◌∙◌}
use mathlib.Core.List.{List, [], ◌∷◌, ◌++◌, append_assoc, append-nil, map}
use Prim.Native.Nat.{ℕ, zero, suc, ◌+◌, ◌-◌, ◌*◌, ◌≤◌, ◌<◌}
use native.Mathlib.Omega.{arith}
use native.Mathlib.Numerals.{add-one}
use lib.ListN.{length, get_or, take, drop, set, length-append, length-drop}
use lib.Seq.{drop-cons, set-append_seam, drop-length, drop-drop, take-append_seam, drop-append_seam, length-take-le}
use Rattle.laws.specs.document.Laid.{laid_over}
use Rattle.adjacency.specs.document.Adjacency.{from, lower, entry, entry_edges}
use Rattle.adjacency.specs.Coded.{map_from_length}
use Rattle.adjacency.specs.Made.{made_length}

pub laid_none : (old : List ℕ) → laid_over [] old ≡ old
unfolding laid_over
laid_none old = refl

laid_more : (c old : List ℕ) (m x : ℕ) → length c ≡ m → m < length old → set (laid_over c old) m x ≡ laid_over (c ++ (x ∷ [])) old
unfolding laid_over
laid_more c old m x e h =
    let l : length c < length old = omega arith in
    rw (← e, drop-cons old (length c) 0 l, set-append_seam, length-append, add-one, append_assoc)

pub laid-two : (c old : List ℕ) (m x y : ℕ) → length c ≡ m → m + 1 < length old → set (set (laid_over c old) m x) (m + 1) y ≡ laid_over (c ++ (x ∷ y ∷ [])) old
laid-two c old m x y e h =
    let l : length (c ++ (x ∷ [])) ≡ m + 1 = rw length-append (omega arith) in
    rw (laid_more c old m x e (omega arith), laid_more (c ++ (x ∷ [])) old (m + 1) y l h, append_assoc)

pub laid_length : (c old : List ℕ) → length c ≤ length old → length (laid_over c old) ≡ length old
unfolding laid_over
laid_length c old h = rw (length-append, length-drop) (omega arith)

-- c behind a
pub laid-join : (a c old : List ℕ) (k : ℕ) → k ≡ length a → take k (laid_over a old) ++ laid_over c (drop k (laid_over a old)) ≡ laid_over (a ++ c) old
unfolding laid_over
laid-join a c old k e =
    rw (e, take-append_seam, drop-append_seam, length-append, drop-drop) (sym (append_assoc a c _))

-- where the whole output is written
pub laid-all : (c old : List ℕ) → length c ≡ length old → laid_over c old ≡ c
unfolding laid_over
laid-all c old e = rw (e, drop-length, append-nil)

-- one number more
from_more : (f : ℕ → ℕ) (i k : ℕ) → map f (from i (k + 1)) ≡ map f (from i k) ++ (f (i + k) ∷ [])
unfolding from
from_more f i zero = let e : i + 0 ≡ i = omega arith in rw e
from_more f i (suc k) =
    let a : suc k + 1 ≡ suc (k + 1) = omega arith in
    let b : i + suc k ≡ suc i + k = omega arith in
    rw (a, b) (ap (λ l. f i ∷ l) (from_more f (suc i) k))

-- one entry more
entries-more : (i k : ℕ) (c : List ℕ) → k < length c → entry_edges i (take (k + 1) c) ≡ entry_edges i (take k c) ++ (get_or c k 0 ∷ (i + k + 1) ∷ [])
unfolding entry_edges
entries-more i k [] h = absurd (let n : ⊥ = omega arith in n)
entries-more i zero (x ∷ c) h = let a : suc i ≡ i + 0 + 1 = omega arith in rw (← a)
entries-more i (suc k) (x ∷ c) h =
    let a : suc k + 1 ≡ suc (k + 1) = omega arith in
    let b : i + suc k + 1 ≡ suc i + k + 1 = omega arith in
    rw (a, b) (ap (λ l. x ∷ suc i ∷ l) (entries-more (suc i) k c (omega arith)))

-- the CAM, one entry more
pub cam-more :
    (E out old : List ℕ) (i r : ℕ) → 1 ≤ i → out ≡ laid_over (map (entry E) (from 1 (i - 1))) old → lower E (i + 1) ≡ r ∷ [] → i - 1 < length old
    → set out (i - 1) r ≡ laid_over (map (entry E) (from 1 (i + 1 - 1))) old
unfolding entry
cam-more E out old i r l e is h =
    let a : i + 1 - 1 ≡ i - 1 + 1 = omega arith in
    let b : suc (1 + (i - 1)) ≡ i + 1 = omega arith in
    let k : get_or (lower E (suc (1 + (i - 1)))) 0 0 ≡ r = rw (b, is) in
    rw (a, e, from_more (entry E) 1 (i - 1), k) (laid_more _ old (i - 1) r (map_from_length (entry E) 1 (i - 1)) h)

-- the edges, one entry more
pub edges_more :
    (c out old : List ℕ) (i : ℕ) → i < length c → 2 * length c ≤ length old → out ≡ laid_over (entry_edges 1 (take i c)) old
    → set (set out (2 * i) (get_or c i 0)) (2 * i + 1) (i + 2) ≡ laid_over (entry_edges 1 (take (i + 1) c)) old
edges_more c out old i h k e =
    let A = entry_edges 1 (take i c) in
    let l : length A ≡ 2 * i = made_length 1 (take i c) ∙ ap (λ n. 2 * n) (length-take-le i c (omega arith)) in
    let z : 1 + i + 1 ≡ i + 2 = omega arith in
    rw (e, entries-more 1 i c h, z) (laid-two A old (2 * i) (get_or c i 0) (i + 2) l (omega arith))
