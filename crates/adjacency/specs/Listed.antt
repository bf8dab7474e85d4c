-- Document 01: "CAM, 0A and A0 decode to (lower, higher) pairs in order of the higher, then of the lower." Assumes nothing.
use Rattle.std.specs.Prelude.{◌≡◌, refl, ◌⊎◌, List, [], ◌∷◌, ◌++◌, ℕ, suc, ◌≤◌, ◌<◌}
use Rattle.std.proofs.Common.{inl, inr, arith}
use Rattle.adjacency.specs.document.Mixed.{mixed_digits}
use Rattle.adjacency.specs.document.Adjacency.{entry_edges, cam_edges_lem, powers, tied, columns, a_edges_lem}
use Rattle.adjacency.specs.Entries.{Entries}
use Rattle.adjacency.specs.Ascend.{Asc}
use Rattle.adjacency.specs.Taken.{row_asc}

-- the pair (a, b) comes behind the pair (l, h)
abbrev pub Behind : ℕ → ℕ → ℕ → ℕ → Type 0
Behind l h a b = (h < b) ⊎ ((h ≡ b) × (l < a))

-- pairs (lower, higher) in order, all behind (l, h)
pub data Listed : ℕ → ℕ → List ℕ → Type 0 where
  none : {l h : ℕ} → Listed l h []
  more : {l h a b : ℕ} {E : List ℕ} → a < b → Behind l h a b → Listed a b E → Listed l h (a ∷ b ∷ E)

listed-entries : {i : ℕ} {c : List ℕ} (l h : ℕ) → h ≤ i → Entries i c → Listed l h (entry_edges i c)
unfolding entry_edges
listed-entries l h k Entries.none = none
listed-entries l h k (Entries.more {i} {x} a b e) =
    let low : x < suc i = omega arith in
    let next : h < suc i = omega arith in
    more low (inl next) (listed-entries x (suc i) (let z : suc i ≤ suc i = omega arith in z) e)

listed-tied :
    {v q : ℕ} {rs F : List ℕ} (l h : ℕ) → Asc v q rs → (h < v) ⊎ ((h ≡ v) × (l < q)) → ((m : ℕ) → Listed m v F) → Listed l h F → Listed l h (tied v rs ++ F)
unfolding tied
listed-tied l h Asc.none o f g = g
listed-tied {v} {q} l h (Asc.more {x = x} a b s) o f g = more b (behind o) (listed-tied x v s (inr (refl, omega arith)) f (f x))
  where
    behind : (h < v) ⊎ ((h ≡ v) × (l < q)) → Behind l h x v
    behind (inl k) = inl k
    behind (inr k) = inr (k.0, omega (arith, k.1))

listed-columns : (i : ℕ) (bs : List ℕ) (l h : ℕ) → h ≤ i → Listed l h (columns i bs)
unfolding columns
listed-columns i [] l h k = none
listed-columns i (b ∷ bs) l h k =
    listed-tied l h (row_asc i b) (inl (omega arith)) (λ m. listed-columns (suc i) bs m (suc i) (omega arith)) (listed-columns (suc i) bs l h (omega arith))

-- what a CAM with entries from 1 to their numbers decodes to
pub cam-listed : (c : List ℕ) → Entries 1 c → Listed 0 0 (cam_edges_lem c)
cam-listed c e = listed-entries 0 0 (let z : 0 ≤ 1 = omega arith in z) e

-- what any number decodes to as an A0
pub a_listed : (N x : ℕ) → Listed 0 0 (a_edges_lem N x)
unfolding a_edges_lem
a_listed N x = listed-columns 1 (mixed_digits (powers N) x) 0 0 (omega arith)
