-- The CAM of a physical numbering: N - 1 entries, each from 1 to its number. Assumes nothing.
use Rattle.std.specs.Prelude.{◌≡◌, refl, ℕ, zero, suc, ◌+◌, ◌-◌, ◌≤◌, ◌<◌, length, get_or}
use Rattle.std.proofs.Common.{ap, sym, ⊎_elim, arith}
use mathlib.Core.List.Memᴰ
use mathlib.Core.List.{List, [], ◌∷◌, map, Memᴰ}
use Rattle.std.proofs.Math.Decide.{ℕ_discrete, dec_lt}
use Rattle.adjacency.specs.document.Adjacency.{from, lower, Physical, entry, cam}
use Rattle.adjacency.specs.Lower.{lower_nil, lower_odd, lower-one, lower-other, lower_pass}
use Rattle.adjacency.specs.Columns.{Plain, none, odd, more}
use Rattle.adjacency.specs.Entries.{Entries}

-- a lower neighbour is from 1 up, and lower
pub lower_in : {N : ℕ} {E : List ℕ} → Plain N E → (v w : ℕ) → Memᴰ w (lower E v) → (1 ≤ w) × (w < v)
lower_in none v w m = absurd (Memᴰ.not-nil (rw (lower_nil v) at m))
lower_in (odd {a}) v w m = absurd (Memᴰ.not-nil (rw (lower_odd a v) at m))
lower_in (more {a} {b} {E} ha hb apart p) v w m = step (dec_lt a b) (ℕ_discrete v b) (ℕ_discrete v a) (lower_in p v w)
  where
    hit : (x : ℕ) → (1 ≤ x) × (x < v) → (Memᴰ w (lower E v) → (1 ≤ w) × (w < v)) → Memᴰ w (x ∷ lower E v) → (1 ≤ w) × (w < v)
    hit x h rest k = ⊎_elim (λ e. rw e h) rest (Memᴰ.cases_cons k)

    step : Dec (a < b) → Dec (v ≡ b) → Dec (v ≡ a) → (Memᴰ w (lower E v) → (1 ≤ w) × (w < v)) → (1 ≤ w) × (w < v)
    step (yes l) (yes e) d rest = hit a (omega arith) rest (rw (e, lower-one a b E l, ← e) at m)
    step (yes l) (no n) d rest = rest (rw (lower_pass a b v E (λ e. omega arith) (λ e. absurd (n (sym e)))) at m)
    step (no l) d (yes e) rest = hit b (omega arith) rest (rw (e, lower-other a b E (omega arith), ← e) at m)
    step (no l) d (no n) rest = rest (rw (lower_pass a b v E (λ e. absurd (n (sym e))) (λ e. omega arith)) at m)

-- where there is one, it is the first
entry_in : {N : ℕ} {E : List ℕ} → Plain N E → (i : ℕ) → length (lower E (suc i)) ≡ 1 → (1 ≤ entry E i) × (entry E i ≤ i)
unfolding entry
entry_in {E = E} p i h = step (lower E (suc i)) h (λ w m. lower_in p (suc i) w m)
  where
    step : (l : List ℕ) → length l ≡ 1 → ((w : ℕ) → Memᴰ w l → (1 ≤ w) × (w < suc i)) → (1 ≤ get_or l 0 0) × (get_or l 0 0 ≤ i)
    step [] e f = absurd (let n : ⊥ = omega arith in n)
    step (w ∷ l) e f = let r = f w (Memᴰ.head refl) in (r.0, omega (arith, r.1))

entries-coded : {N : ℕ} {E : List ℕ} → Plain N E → (i n : ℕ) → ((v : ℕ) → i < v → v ≤ i + n → length (lower E v) ≡ 1) → Entries i (map (entry E) (from i n))
unfolding from
entries-coded p i zero h = Entries.none
entries-coded {E = E} p i (suc n) h =
    let r = entry_in p i (h (suc i) (omega arith) (omega arith)) in
    Entries.more r.0 r.1 (entries-coded p (suc i) n (λ v a b. h v (omega arith) (omega arith)))

pub cam-entries : {N : ℕ} {E : List ℕ} → Plain N E → Physical N E → Entries 1 (cam N E)
unfolding cam
cam-entries {N} p h = entries-coded p 1 (N - 1) (λ v a b. h.only v (omega arith) (omega arith))

pub map_from_length : (f : ℕ → ℕ) (i n : ℕ) → length (map f (from i n)) ≡ n
unfolding from
map_from_length f i zero = refl
map_from_length f i (suc n) = ap suc (map_from_length f (suc i) n)

pub cam_length : (N : ℕ) (E : List ℕ) → length (cam N E) ≡ N - 1
unfolding cam
cam_length N E = map_from_length (entry E) 1 (N - 1)
