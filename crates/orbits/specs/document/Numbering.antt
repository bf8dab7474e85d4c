-- Document 01, "Equal vertices": "Classes are numbered from 1 by first appearance."
--
-- What a numbering by first appearance is, of any relation between the vertices 1 to N. That an equivalence has one such numbering is in
-- `Appearance`. Assumes nothing.
use Rattle.std.specs.Prelude.{◌≡◌, ◌↔◌, List, ℕ, ◌-◌, ◌≤◌, ◌<◌, length, get_or}

-- the class of vertex v, from 1
abbrev pub class : List ℕ → ℕ → ℕ
class l v = get_or l (v - 1) 0

-- l has a class for each of the vertices 1 to N: one class for two vertices exactly when R joins them; and the numbers are from 1, each
-- first met behind all lower ones
pub record ByAppearance (R : ℕ → ℕ → Type 0) (N : ℕ) (l : List ℕ) : Type 0 where
  pub count : length l ≡ N
  pub alike : (u v : ℕ) → 1 ≤ u → u ≤ N → 1 ≤ v → v ≤ N → (class l u ≡ class l v) ↔ R u v
  pub from_one : (v : ℕ) → 1 ≤ v → v ≤ N → 1 ≤ class l v
  pub lower-first : (v k : ℕ) → 1 ≤ v → v ≤ N → 1 ≤ k → k < class l v → (u : ℕ) × (1 ≤ u) × (u < v) × (class l u ≡ k)
