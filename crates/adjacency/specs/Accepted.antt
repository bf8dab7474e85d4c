-- What an accepted 0A and an accepted A0 are. What an accepted CAM is, is in `Made`. Assumes nothing.
use Rattle.std.specs.Prelude.{◌≡◌, refl, ◌↔◌, List, [], ◌∷◌, ℕ, ◌-◌, ◌*◌, ◌/◌, ◌^◌, ◌≤◌, ◌<◌, length}
use Rattle.std.proofs.Common.{⊎_elim, arith}
use Rattle.std.proofs.Math.Decide.{ℕ_discrete}
use Rattle.std.specs.Int.Count.{ones}
use Rattle.refusal.specs.document.Table.{Row, Clear, Outside, row3}
use Rattle.refusal.specs.Laws.{clear_one, clear_both, clear_left, never, others, at_least}
use Rattle.skeleton.specs.document.Skeleton.{arcs, IsSkeleton}
use Rattle.edge_list.specs.document.Edges.{row6}
use Rattle.edge_list.specs.Theorems.{accepted}
use Rattle.adjacency.specs.document.Adjacency.{factorial, zero_cam_lem, a_edges_lem, row4_number, row5_ones, made_rows, cam_rows, zero_rows, a_rows}
use Rattle.adjacency.specs.Plain.{plain_at}
use Rattle.adjacency.specs.Made.{entries_clear, edge_front}
use Rattle.adjacency.specs.Zero as Zero
use Rattle.adjacency.specs.Taken as Taken

-- ---- 0A

-- a 0A is accepted just where it is in its range and the CAM that it stands for is accepted
pub zero_accepted : (most R N x : ℕ) → Clear (zero_rows most R N x) ↔ ((x < factorial (N - 1)) × Clear (cam_rows most R N (zero_cam_lem N x)))
zero_accepted most R N x = (there, back)
  where
    there : Clear (zero_rows most R N x) → (x < factorial (N - 1)) × Clear (cam_rows most R N (zero_cam_lem N x))
    there k =
        let small : factorial (N - 1) ≤ x → ⊥ = λ l. never (others k) 0 (refl, l) in
        let three = clear_left (row3 most N ∷ []) _ k in
        (omega arith, clear_both three (clear_both (clear_one (λ p a. a.1 (Zero.zero_length N x))) (clear_both (entries_clear (Zero.zero_entries N x)) (others (others k)))))

    back : (x < factorial (N - 1)) × Clear (cam_rows most R N (zero_cam_lem N x)) → Clear (zero_rows most R N x)
    back h =
        let three = clear_left (row3 most N ∷ []) _ h.1 in
        clear_both three (clear_both (clear_one (λ p a. let n : ⊥ = omega (arith, a.1, h.0) in n)) (others (others (others h.1))))

-- ---- A0

-- 3, 4 and 5 of an A0
abbrev pub a_front : ℕ → ℕ → ℕ → List Row
a_front most N x = row3 most N ∷ row4_number (2 ^ (N * (N - 1) / 2)) x ∷ row5_ones N x ∷ []

-- where they are clear, it makes N-1 edges
pub a_long : (most N x : ℕ) → Clear (a_front most N x) → length (a_edges_lem N x) ≡ 2 * (N - 1)
a_long most N x k =
    let n : 2 ^ (N * (N - 1) / 2) ≤ x → ⊥ = λ l. never (others k) 0 (refl, l) in
    let e = Taken.a_ones N x (omega arith) in
    let c = count (ℕ_discrete (ones x) (N - 1)) in
    omega arith
  where
    count : Dec (ones x ≡ N - 1) → ones x ≡ N - 1
    count (yes e) = e
    count (no n) = absurd (never (others (others k)) 0 (refl, n))

-- and the edge list's 3, 5 and 6 have nothing to say
pub a-front : (most N x : ℕ) → Clear (a_front most N x) → Clear (edge_front most N (a_edges_lem N x))
a-front most N x k = clear_both (clear_left (row3 most N ∷ []) _ k) (clear_both (clear_one (λ p a. a.1 (a_long most N x k))) six)
  where
    within : (v : ℕ) → (1 ≤ v) × (v ≤ N) → Outside N v → ⊥
    within v h o = ⊎_elim (λ e. let n : ⊥ = omega (arith, h.0) in n) (λ l. let n : ⊥ = omega (arith, h.1) in n) o

    six : Clear (row6 N (a_edges_lem N x) 1 ∷ [])
    six =
        clear_one (λ p a. ⊎_elim (λ z. within 1 (omega arith, at_least k) z.1)
        (λ z. let f = plain_at (Taken.a_plain N x (at_least k)) p z.0 in ⊎_elim (within _ f.0) (within _ f.1) z.1) a)

-- an A0 is accepted just where it is in its range and its edges make a skeleton
pub a_accepted : (most R N x : ℕ) → Clear (a_rows most R N x) ↔ ((x < 2 ^ (N * (N - 1) / 2)) × IsSkeleton most R N (a_edges_lem N x))
a_accepted most R N x = (there, back)
  where
    there : Clear (a_rows most R N x) → (x < 2 ^ (N * (N - 1) / 2)) × IsSkeleton most R N (a_edges_lem N x)
    there k =
        let n : 2 ^ (N * (N - 1) / 2) ≤ x → ⊥ = λ l. never (others k) 0 (refl, l) in
        let f = a-front most N x (clear_left (a_front most N x) (made_rows R (a_edges_lem N x)) k) in
        (omega arith, ((accepted most R N (a_edges_lem N x) 1).0 (clear_both f (others (others (others k))))).0)

    back : (x < 2 ^ (N * (N - 1) / 2)) × IsSkeleton most R N (a_edges_lem N x) → Clear (a_rows most R N x)
    back (l, s) =
        let k = (accepted most R N (a_edges_lem N x) 1).1 (s, (omega arith, omega (arith, s.tree.edges))) in
        let e : ones x ≡ N - 1 = omega (arith, Taken.a_ones N x l, s.tree.edges) in
        clear_both (clear_left (row3 most N ∷ []) _ k)
        (clear_both (clear_one (λ p a. let n : ⊥ = omega (arith, a.1) in n)) (clear_both (clear_one (λ p a. a.1 e)) (others (others (others k)))))

pub arcs_length : (F : List ℕ) → length (arcs F) ≡ 2 * (length F / 2)
unfolding arcs
arcs_length [] = refl
arcs_length (a ∷ []) = refl
arcs_length (a ∷ b ∷ F) = let e = arcs_length F in omega arith
