-- A CAM whose every entry is from 1 to its number: the lower neighbours in the edges that it makes. So they make a physical numbering,
-- and its CAM is the one that made them. Assumes nothing.
use Rattle.std.specs.Prelude.{◌≡◌, refl, List, [], ◌∷◌, map, ℕ, zero, suc, ◌+◌, ◌-◌, ◌≤◌, ◌<◌, length, get_or}
use Rattle.std.proofs.Common.{ap, ap₂, ◌∙◌, inl, inr, arith}
use Rattle.refusal.specs.document.Table.{Clear, Outside}
use Rattle.refusal.specs.Laws.{never}
use Rattle.adjacency.specs.document.Adjacency.{from, lower, Physical, entry, cam, entry_edges, cam_edges_lem, row6-cam}
use Rattle.adjacency.specs.Lower.{lower_nil, lower-one, lower_pass}

-- "1 <= CAM(i) <= i", of entries that begin with number i
pub data Entries : ℕ → List ℕ → Type 0 where
  none : {i : ℕ} → Entries i []
  more : {i x : ℕ} {c : List ℕ} → 1 ≤ x → x ≤ i → Entries (suc i) c → Entries i (x ∷ c)

-- ---- 6

entries_from : (i : ℕ) (c : List ℕ) → ((j : ℕ) → j < length c → Outside (i + j) (get_or c j 0) → ⊥) → Entries i c
entries_from i [] h = none
entries_from i (x ∷ c) h =
    let here = h 0 (omega arith) in
    let low : x ≡ 0 → ⊥ = λ e. here (inl e) in
    let high : i + 0 < x → ⊥ = λ l. here (inr l) in
    let le : x ≤ i = omega arith in
    let ge : 1 ≤ x = omega arith in
    more ge le (entries_from (suc i) c (λ j l o. h (suc j) (omega arith) (let e : i + suc j ≡ suc i + j = omega arith in rw e o)))

pub entries_of : (c : List ℕ) → Clear (row6-cam c ∷ []) → Entries 1 c
entries_of c k =
    entries_from 1 c (λ j l o. never k (1 + j) (omega arith, omega arith, let e : 1 + j - 1 ≡ j = omega arith in rw e o))

-- ---- lower neighbours

lower-low : {i : ℕ} {c : List ℕ} → Entries i c → (v : ℕ) → v ≤ i → lower (entry_edges i c) v ≡ []
unfolding entry_edges
lower-low none v h = lower_nil v
lower-low (more {i} {x} a b k) v h =
    lower_pass x (suc i) v _ (λ e. omega arith) (λ e. absurd (let n : ⊥ = omega arith in n)) ∙ lower-low k v (omega arith)

lower-at : {i : ℕ} {c : List ℕ} → Entries i c → (j : ℕ) → j < length c → lower (entry_edges i c) (i + suc j) ≡ get_or c j 0 ∷ []
unfolding entry_edges
lower-at none j h = absurd (let n : ⊥ = omega arith in n)
lower-at (more {i} {x} a b k) zero h =
    let e : i + 1 ≡ suc i = omega arith in
    rw e (lower-one x (suc i) _ (omega arith) ∙ ap (λ l. x ∷ l) (lower-low k (suc i) (omega arith)))
lower-at (more {i} {x} a b k) (suc j) h =
    let e : i + suc (suc j) ≡ suc i + suc j = omega arith in
    rw e (lower_pass x (suc i) (suc i + suc j) _ (λ z. absurd (let n : ⊥ = omega arith in n)) (λ z. absurd (let n : ⊥ = omega arith in n)) ∙ lower-at k j (omega arith))

-- ---- the CAM again

pub map_from : (f : ℕ → ℕ) (i : ℕ) (c : List ℕ) → ((j : ℕ) → j < length c → f (i + j) ≡ get_or c j 0) → map f (from i (length c)) ≡ c
unfolding from
map_from f i [] h = refl
map_from f i (x ∷ c) h =
    ap₂ (λ y l. y ∷ l) (let e : i + 0 ≡ i = omega arith in rw e at (h 0 (omega arith)))
    (map_from f (suc i) c (λ j l. let e : i + suc j ≡ suc i + j = omega arith in rw e at (h (suc j) (omega arith))))

pub cam_again : (N : ℕ) (c : List ℕ) → length c ≡ N - 1 → Entries 1 c → cam N (cam_edges_lem c) ≡ c
unfolding cam entry
cam_again N c e k = rw (← e) (map_from (entry (cam_edges_lem c)) 1 c (λ j l. let z : suc (1 + j) ≡ 1 + suc j = omega arith in rw (z, lower-at k j l)))

pub cam-physical : (N : ℕ) (c : List ℕ) → length c ≡ N - 1 → Entries 1 c → Physical N (cam_edges_lem c)
cam-physical N c e k = record { only = λ v a b. let z : 1 + suc (v - 2) ≡ v = omega arith in rw z at (ap length (lower-at k (v - 2) (omega arith))) }
