-- A skeleton under other numbers, each end replaced where it stands (`map to`), against edges F in that numbering, where this is physical: the
-- same arcs in another order, so the same lower neighbours, the same CAM, 0A and A0.
--
-- In order: what is the same of lists with the same lower neighbours; a renumbering. Assumes nothing.
use Rattle.std.specs.Prelude.{◌≡◌, refl, ℕ, zero, suc, ◌+◌, ◌-◌, ◌≤◌, ◌<◌, length}
use Rattle.std.proofs.Math.Path.{ap}
use Rattle.std.proofs.Common.{ap₂, ◌∙◌, ⊎_elim, arith}
use mathlib.Core.List.Memᴰ
use mathlib.Core.List.Permᴰ
use mathlib.Core.List.{List, [], ◌∷◌, map, Memᴰ, Permᴰ}
use Rattle.std.proofs.Math.Decide.{dec_lt}
use Rattle.std.proofs.Math.ListN.{get_or}
use Rattle.std.proofs.lemmas.List.{length-map}
use Rattle.laws.specs.Perms.{perm_in, perm_length}
use Rattle.skeleton.specs.document.Skeleton.{arcs, IsSkeleton, Renumbering}
use Rattle.skeleton.specs.Codes.{neighbours_perm}
use Rattle.adjacency.specs.document.Adjacency.{from, lower, Physical, entry, cam, bin, powers, a_zero_lem}
use Rattle.adjacency.specs.document.Mixed.{mixed}
use Rattle.adjacency.specs.Reorder.{reordered}

-- ---- the same lower neighbours

from-same : {A : Type 0} (f g : ℕ → A) (i n : ℕ) → ((j : ℕ) → i ≤ j → j < i + n → f j ≡ g j) → map f (from i n) ≡ map g (from i n)
unfolding from
from-same f g i zero h = refl
from-same f g i (suc n) h = ap₂ ◌∷◌ (h i (omega arith) (omega arith)) (from-same f g (suc i) n (λ j a b. h j (omega arith) (omega arith)))

module _ (N : ℕ) (E F : List ℕ) (same : (v : ℕ) → 2 ≤ v → v ≤ N → lower E v ≡ lower F v) where
  physical-same : Physical N F → Physical N E
  physical-same p = record { only = λ v a b. ap length (same v a b) ∙ p.only v a b }

  cam-same : cam N E ≡ cam N F
  unfolding cam entry
  cam-same = from-same (entry E) (entry F) 1 (N - 1) (λ j a b. ap (λ l. get_or l 0 0) (same (suc j) (omega arith) (omega arith)))

  a_zero-same : a_zero_lem N E ≡ a_zero_lem N F
  unfolding a_zero_lem
  a_zero-same = ap (mixed 0 (powers N)) (from-same (bin E) (bin F) 1 (N - 1) (λ j a b. rw (same (suc j) (omega arith) (omega arith))))

-- ---- a renumbering

-- a rearrangement of one is that one
perm_one : {l m : List ℕ} → Permᴰ l m → length m ≡ 1 → l ≡ m
perm_one {l} {m} π e = step l m (perm_length π ∙ e) e (λ x h. perm_in π h)
  where
    step : (l m : List ℕ) → length l ≡ 1 → length m ≡ 1 → ((x : ℕ) → Memᴰ x l → Memᴰ x m) → l ≡ m
    step [] m h k f = absurd (let n : ⊥ = omega arith in n)
    step (x ∷ y ∷ l) m h k f = absurd (let n : ⊥ = omega arith in n)
    step (x ∷ []) [] h k f = absurd (let n : ⊥ = omega arith in n)
    step (x ∷ []) (y ∷ z ∷ m) h k f = absurd (let n : ⊥ = omega arith in n)
    step (x ∷ []) (y ∷ []) h k f = ⊎_elim (λ e. ap (λ v. v ∷ []) e) (λ n. absurd (Memᴰ.not-nil n)) (Memᴰ.cases_cons (f x (Memᴰ.head refl)))

arcs_map : (f : ℕ → ℕ) (E : List ℕ) → arcs (map f E) ≡ map (λ e. (f e.0, f e.1)) (arcs E)
unfolding arcs
arcs_map f [] = refl
arcs_map f (a ∷ []) = refl
arcs_map f (a ∷ b ∷ E) = ap (λ l. (f a, f b) ∷ (f b, f a) ∷ l) (arcs_map f E)

lower_perm : (E F : List ℕ) (v : ℕ) → Permᴰ (arcs E) (arcs F) → Permᴰ (lower E v) (lower F v)
unfolding lower
lower_perm E F v π = Permᴰ.filter (λ w. dec_lt w v) (neighbours_perm v π)

module _ {N : ℕ} {E F : List ℕ} (ρ : Renumbering N E F) (p : Physical N F) where
  same-arcs : Permᴰ (arcs (map ρ.to E)) (arcs F)
  same-arcs = rw (arcs_map ρ.to E) ρ.carries

  same-lower : (v : ℕ) → 2 ≤ v → v ≤ N → lower (map ρ.to E) v ≡ lower F v
  same-lower v a b = perm_one (lower_perm (map ρ.to E) F v same-arcs) (p.only v a b)

  pub renumbered_physical : Physical N (map ρ.to E)
  renumbered_physical = physical-same N (map ρ.to E) F same-lower p

  pub renumbered_cam : cam N (map ρ.to E) ≡ cam N F
  renumbered_cam = cam-same N (map ρ.to E) F same-lower

  pub renumbered_a_zero : a_zero_lem N (map ρ.to E) ≡ a_zero_lem N F
  renumbered_a_zero = a_zero-same N (map ρ.to E) F same-lower

  pub renumbered_skeleton : {most R : ℕ} → IsSkeleton most R N F → length E ≡ length F → IsSkeleton most R N (map ρ.to E)
  renumbered_skeleton s e = reordered (length-map E ρ.to ∙ e) (Permᴰ.symm same-arcs) s
