-- The edges that a CAM makes, by number, and what is refused of them: behind 3, 5 and 6 of the CAM, the edge list's 3, 5 and 6 have
-- nothing to say. Assumes nothing.
use Rattle.std.specs.Prelude.{◌≡◌, refl, ◌↔◌, List, [], ◌∷◌, ℕ, zero, suc, ◌+◌, ◌-◌, ◌*◌, ◌≤◌, ◌<◌, length, get_or}
use Rattle.std.proofs.Common.{⊎_elim, arith}
use Rattle.std.proofs.Math.Decide.{ℕ_discrete}
use Rattle.refusal.specs.document.Table.{Row, Clear, row3}
use Rattle.refusal.specs.Laws.{clear_one, clear_both, clear_left, clear_right, never, others, at_most, at_least}
use Rattle.skeleton.specs.document.Skeleton.{IsSkeleton}
use Rattle.edge_list.specs.document.Edges.{Edge, first_end, second_end, row5_edges, row6}
use Rattle.edge_list.specs.Theorems.{accepted}
use Rattle.adjacency.specs.document.Adjacency.{entry_edges, cam_edges_lem, row5_cam, row6-cam, made_rows, cam_rows}
use Rattle.adjacency.specs.Entries.{Entries, none, more, entries_of}

-- ---- the edges by number

pub made_length : (i : ℕ) (c : List ℕ) → length (entry_edges i c) ≡ 2 * length c
unfolding entry_edges
made_length i [] = refl
made_length i (x ∷ c) = let e = made_length (suc i) c in omega arith

made_one : (i : ℕ) (c : List ℕ) (j : ℕ) → j < length c → get_or (entry_edges i c) (2 * j) 0 ≡ get_or c j 0
unfolding entry_edges
made_one i [] j h = absurd (let n : ⊥ = omega arith in n)
made_one i (x ∷ c) zero h = refl
made_one i (x ∷ c) (suc j) h = let e : 2 * suc j ≡ suc (suc (2 * j)) = omega arith in rw e (made_one (suc i) c j (omega arith))

made_other : (i : ℕ) (c : List ℕ) (j : ℕ) → j < length c → get_or (entry_edges i c) (2 * j + 1) 0 ≡ i + suc j
unfolding entry_edges
made_other i [] j h = absurd (let n : ⊥ = omega arith in n)
made_other i (x ∷ c) zero h = omega arith
made_other i (x ∷ c) (suc j) h =
    let e : 2 * suc j + 1 ≡ suc (suc (2 * j + 1)) = omega arith in
    let f : i + suc (suc j) ≡ suc i + suc j = omega arith in
    rw (e, f) (made_other (suc i) c j (omega arith))

-- ---- 5 and 6

pub entry_at : {i : ℕ} {c : List ℕ} → Entries i c → (j : ℕ) → j < length c → (1 ≤ get_or c j 0) × (get_or c j 0 ≤ i + j)
entry_at none j h = absurd (let n : ⊥ = omega arith in n)
entry_at (more a b k) zero h = (a, omega arith)
entry_at (more {i} a b k) (suc j) h = let r = entry_at k j (omega arith) in (r.0, omega (arith, r.1))

pub entries_clear : {c : List ℕ} → Entries 1 c → Clear (row6-cam c ∷ [])
entries_clear {c} k =
    clear_one (λ p a. let r = entry_at k (p - 1) (omega (arith, a.0, a.1)) in ⊎_elim (λ z. let n : ⊥ = omega (arith, r.0) in n) (λ z. let n : ⊥ = omega (arith, r.1, a.0) in n) a.2)

pub long : {most : ℕ} (N : ℕ) (c : List ℕ) {rs : List Row} → Clear (row3 most N ∷ row5_cam N c ∷ rs) → length c ≡ N - 1
long N c k = let d : (length c ≡ N - 1 → ⊥) → ⊥ = λ n. never (others k) 0 (refl, n) in step d (ℕ_discrete (length c) (N - 1))
  where
    step : ((length c ≡ N - 1 → ⊥) → ⊥) → Dec (length c ≡ N - 1) → length c ≡ N - 1
    step d (yes e) = e
    step d (no n) = absurd (d n)

-- a CAM's 3, 5 and 6
abbrev pub cam_front : ℕ → ℕ → List ℕ → List Row
cam_front most N c = row3 most N ∷ row5_cam N c ∷ row6-cam c ∷ []

-- the edge list's
abbrev pub edge_front : ℕ → ℕ → List ℕ → List Row
edge_front most N E = row3 most N ∷ row5_edges N E ∷ row6 N E 1 ∷ []

front-made : (most N : ℕ) (c : List ℕ) → 1 ≤ N → N ≤ most → length c ≡ N - 1 → Entries 1 c → Clear (edge_front most N (cam_edges_lem c))
front-made most N c low high len k = clear_both three (clear_both five six)
  where
    three : Clear (row3 most N ∷ [])
    three = clear_one (λ p a. ⊎_elim (λ e. let n : ⊥ = omega arith in n) (λ l. let n : ⊥ = omega arith in n) a.1)

    five : Clear (row5_edges N (cam_edges_lem c) ∷ [])
    five = clear_one (λ p a. let e = made_length 1 c in let n : length (cam_edges_lem c) ≡ 2 * (N - 1) = omega arith in a.1 n)

    fair : (p : ℕ) → Edge (cam_edges_lem c) p → (1 ≤ first_end (cam_edges_lem c) p) × (first_end (cam_edges_lem c) p ≤ N) × (1 ≤ second_end (cam_edges_lem c) p) × (second_end (cam_edges_lem c) p ≤ N)
    fair p h =
        let l = made_length 1 c in
        let j : p - 1 < length c = omega (arith, h.0, h.1) in
        let r = entry_at k (p - 1) j in
        let a = made_one 1 c (p - 1) j in
        let b = made_other 1 c (p - 1) j in
        (omega (arith, r.0), omega (arith, r.1), omega arith, omega arith)

    six : Clear (row6 N (cam_edges_lem c) 1 ∷ [])
    six =
        clear_one (λ p a. ⊎_elim (λ z. ⊎_elim (λ e. let n : ⊥ = omega arith in n) (λ e. let n : ⊥ = omega arith in n) z.1)
        (λ z. let f = fair p z.0 in ⊎_elim (λ o. ⊎_elim (λ e. let n : ⊥ = omega (arith, f.0) in n) (λ e. let n : ⊥ = omega (arith, f.1) in n) o)
        (λ o. ⊎_elim (λ e. let n : ⊥ = omega (arith, f.2) in n) (λ e. let n : ⊥ = omega (arith, f.3) in n) o) z.1) a)

pub front-cam : (most N : ℕ) (c : List ℕ) → Clear (cam_front most N c) → Clear (edge_front most N (cam_edges_lem c))
front-cam most N c k = front-made most N c (at_least k) (at_most k) (long N c k) (entries_of c (others (others k)))

-- ---- what an accepted CAM is

pub cam_accepted :
    (most R N : ℕ) (c : List ℕ) → Clear (cam_rows most R N c) ↔ ((length c ≡ N - 1) × Entries 1 c × IsSkeleton most R N (cam_edges_lem c))
cam_accepted most R N c = (there, back)
  where
    there : Clear (cam_rows most R N c) → (length c ≡ N - 1) × Entries 1 c × IsSkeleton most R N (cam_edges_lem c)
    there k =
        let f = clear_left (cam_front most N c) (made_rows R (cam_edges_lem c)) k in
        let m = clear_right (cam_front most N c) (made_rows R (cam_edges_lem c)) k in
        (long N c f, entries_of c (others (others f)), ((accepted most R N (cam_edges_lem c) 1).0 (clear_both (front-cam most N c f) m)).0)

    back : (length c ≡ N - 1) × Entries 1 c × IsSkeleton most R N (cam_edges_lem c) → Clear (cam_rows most R N c)
    back h =
        let s = h.2 in
        let k = (accepted most R N (cam_edges_lem c) 1).1 (s, (omega arith, omega (arith, s.tree.edges))) in
        let m = clear_right (edge_front most N (cam_edges_lem c)) (made_rows R (cam_edges_lem c)) k in
        let three = clear_left (row3 most N ∷ []) _ k in
        clear_both (clear_both three (clear_both (clear_one (λ p a. a.1 h.0)) (entries_clear h.1))) m

pub few : {most : ℕ} (N : ℕ) (c : List ℕ) → Clear (cam_front most N c) → length c < most
few N c k = omega (arith, long N c k, at_least k, at_most k)
