-- The edges of a list taken by column, each from the lower neighbours of a vertex to it: the same edges, so the same arcs in another order.
--
-- In order: columns; one more row in a column; the list itself, one edge at a time; columns of one row each, which are a CAM's.
-- Assumes nothing.
use Rattle.std.specs.Prelude.{◌≡◌, length, get_or}
use Rattle.std.proofs.Math.Path.{refl, ap₂}
use Rattle.std.proofs.Common.{ap, sym}
use mathlib.Core.List.Permᴰ
use mathlib.Core.List.{List, [], ◌∷◌, ◌++◌, map, Permᴰ}
use Prim.Native.Nat.{ℕ, zero, suc, ◌+◌, ◌-◌, ◌≤◌, ◌<◌}
use Rattle.std.proofs.Math.Decide.{ℕ_discrete, dec_lt}
use native.Mathlib.Omega.{arith}
use Rattle.laws.specs.Perms.{front}
use Rattle.skeleton.specs.document.Skeleton.{arcs}
use Rattle.adjacency.specs.document.Adjacency.{from, lower, Physical, entry, cam, entry_edges, cam_edges_lem, tied}
use Rattle.adjacency.specs.Lower.{lower_nil, lower_odd, lower-one, lower-other, lower_pass}

-- n columns, that of vertex i + 1 first; f says the rows
unfoldable pub by_column : (ℕ → List ℕ) → ℕ → ℕ → List ℕ
by_column f i zero = []
by_column f i (suc n) = tied (suc i) (f (suc i)) ++ by_column f (suc i) n

pub arcs-tied : (v : ℕ) (rs F : List ℕ) → arcs (tied v rs ++ F) ≡ arcs (tied v rs) ++ arcs F
unfolding arcs tied
arcs-tied v [] F = refl
arcs-tied v (r ∷ rs) F = ap (λ l. (r, v) ∷ (v, r) ∷ l) (arcs-tied v rs F)

columns-none : (f : ℕ → List ℕ) → ((v : ℕ) → f v ≡ []) → (i n : ℕ) → by_column f i n ≡ []
unfolding by_column tied
columns-none f e i zero = refl
columns-none f e i (suc n) = rw (e (suc i)) (columns-none f e (suc i) n)

-- ---- g is f with the row x more in the column m

module _ (f g : ℕ → List ℕ) (x m : ℕ) (at-m : g m ≡ x ∷ f m) (off : (v : ℕ) → (v ≡ m → ⊥) → g v ≡ f v) where
  past : (i n : ℕ) → m ≤ i → by_column g i n ≡ by_column f i n
  unfolding by_column
  past i zero h = refl
  past i (suc n) h = ap₂ (λ l k. tied (suc i) l ++ k) (off (suc i) (λ e. omega arith)) (past (suc i) n (omega arith))

  one_more : (i n : ℕ) → i < m → m ≤ i + n → Permᴰ (arcs (by_column g i n)) ((x, m) ∷ (m, x) ∷ arcs (by_column f i n))
  unfolding by_column tied arcs
  one_more i zero h k = absurd (let n : ⊥ = omega arith in n)
  one_more i (suc n) h k = step (ℕ_discrete (suc i) m) (λ l. one_more (suc i) n l (omega arith))
    where
      step : Dec (suc i ≡ m) → (suc i < m → Permᴰ (arcs (by_column g (suc i) n)) ((x, m) ∷ (m, x) ∷ arcs (by_column f (suc i) n))) → Permᴰ (arcs (tied (suc i) (g (suc i)) ++ by_column g (suc i) n)) ((x, m) ∷ (m, x) ∷ arcs (tied (suc i) (f (suc i)) ++ by_column f (suc i) n))
      step (yes e) rest = rw (e, at-m, past m n (omega arith)) (Permᴰ.refl _)
      step (no d) rest =
          rw (off (suc i) d, arcs-tied (suc i) (f (suc i)) (by_column g (suc i) n), arcs-tied (suc i) (f (suc i)) (by_column f (suc i) n))
          (Permᴰ.trans (Permᴰ.append_left (arcs (tied (suc i) (f (suc i)))) (rest (omega arith))) (front (arcs (tied (suc i) (f (suc i)))) ((x, m) ∷ (m, x) ∷ []) (arcs (by_column f (suc i) n))))

-- ---- a list of edges whose ends differ and are from 1 to N

pub data Plain (N : ℕ) : List ℕ → Type 0 where
  none : Plain N []
  odd : {a : ℕ} → Plain N (a ∷ [])
  more : {a b : ℕ} {E : List ℕ} → (1 ≤ a) × (a ≤ N) → (1 ≤ b) × (b ≤ N) → (a ≡ b → ⊥) → Plain N E → Plain N (a ∷ b ∷ E)

pub by-column : {N : ℕ} {E : List ℕ} → Plain N E → Permᴰ (arcs E) (arcs (by_column (lower E) 1 (N - 1)))
unfolding arcs
by-column {N} none = rw (columns-none (lower []) lower_nil 1 (N - 1)) Permᴰ.nil
by-column {N} (odd {a}) = rw (columns-none (lower (a ∷ [])) (lower_odd a) 1 (N - 1)) Permᴰ.nil
by-column {N} (more {a} {b} {E} ha hb apart p) = step (dec_lt a b) (by-column p)
  where
    step : Dec (a < b) → Permᴰ (arcs E) (arcs (by_column (lower E) 1 (N - 1))) → Permᴰ ((a, b) ∷ (b, a) ∷ arcs E) (arcs (by_column (lower (a ∷ b ∷ E)) 1 (N - 1)))
    step (yes l) rest =
        Permᴰ.trans (Permᴰ.cons refl (Permᴰ.cons refl rest))
        (Permᴰ.symm (one_more (lower E) (lower (a ∷ b ∷ E)) a b (lower-one a b E l) (λ v d. lower_pass a b v E (λ e. omega arith) (λ e. absurd (d (sym e)))) 1 (N - 1) (omega arith) (omega arith)))
    step (no n) rest =
        let l : b < a = omega arith in
        Permᴰ.trans (Permᴰ.swap refl refl) (Permᴰ.trans (Permᴰ.cons refl (Permᴰ.cons refl rest))
        (Permᴰ.symm (one_more (lower E) (lower (a ∷ b ∷ E)) b a (lower-other a b E l) (λ v d. lower_pass a b v E (λ e. absurd (d (sym e))) (λ e. omega arith)) 1 (N - 1) (omega arith) (omega arith))))

-- ---- columns of one row

columns-one : (E : List ℕ) (i n : ℕ) → ((v : ℕ) → i < v → v ≤ i + n → length (lower E v) ≡ 1) → by_column (lower E) i n ≡ entry_edges i (map (entry E) (from i n))
unfolding by_column tied entry_edges from entry
columns-one E i zero h = refl
columns-one E i (suc n) h =
    step (lower E (suc i)) refl (h (suc i) (omega arith) (omega arith)) (columns-one E (suc i) n (λ v a b. h v (omega arith) (omega arith)))
  where
    step : (l : List ℕ) → lower E (suc i) ≡ l → length l ≡ 1 → by_column (lower E) (suc i) n ≡ entry_edges (suc i) (map (entry E) (from (suc i) n)) → tied (suc i) (lower E (suc i)) ++ by_column (lower E) (suc i) n ≡ get_or (lower E (suc i)) 0 0 ∷ suc i ∷ entry_edges (suc i) (map (entry E) (from (suc i) n))
    step [] e k r = absurd (let n : ⊥ = omega arith in n)
    step (w ∷ []) e k r = rw e (ap (λ l. w ∷ suc i ∷ l) r)
    step (w ∷ u ∷ l) e k r = absurd (let n : ⊥ = omega arith in n)

-- the columns of a physical numbering are its CAM's edges
columns-cam : (N : ℕ) (E : List ℕ) → Physical N E → by_column (lower E) 1 (N - 1) ≡ cam_edges_lem (cam N E)
unfolding cam
columns-cam N E p = columns-one E 1 (N - 1) (λ v a b. p.only v (omega arith) (omega arith))

-- the edges of a physical numbering, decoded from its CAM
pub cam-edges : (N : ℕ) (E : List ℕ) → Plain N E → Physical N E → Permᴰ (arcs E) (arcs (cam_edges_lem (cam N E)))
cam-edges N E h p = rw (columns-cam N E p) at (by-column h)
