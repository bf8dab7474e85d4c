-- Classes of vertices, found from vertex to vertex by a relation that is decided. No promise cites this: that the classes so found are numbered
-- by first appearance, and no others are, is in `Appearance`.
--
-- In order: which class a vertex is given; the classes of all; whether two codes are equal. Assumes nothing.
use Rattle.std.specs.Prelude.{◌≡◌, refl, ℕ, zero, suc, max}
use Rattle.std.proofs.Common.{ap₂}
use Rattle.std.proofs.Math.Logic.{ite}
use mathlib.Core.List.{List, [], ◌∷◌, ◌++◌, cons≢nil, nil≢cons, head-eq_of_cons-eq, tail-eq_of_cons-eq}
use Rattle.std.proofs.Math.Decide.{ℕ_discrete}

-- the greatest number of a list, 0 where it has none
unfoldable pub greatest : List ℕ → ℕ
greatest [] = 0
greatest (k ∷ l) = max k (greatest l)

module _ {R : ℕ → ℕ → Type 0} (R? : (u v : ℕ) → Dec (R u v)) where
  -- l: the classes of the vertices from u on; the class of the first of them that R joins to v, and `new` where there is none
  unfoldable pub class_of : ℕ → ℕ → ℕ → List ℕ → ℕ
  class_of v new u [] = new
  class_of v new u (k ∷ l) = ite (R? u v) k (class_of v new (suc u) l)

  -- the classes of the vertices 1 to N: a vertex has the class of the first before it that R joins to it, else the next number
  unfoldable pub numbering : ℕ → List ℕ
  numbering zero = []
  numbering (suc n) = numbering n ++ (class_of (suc n) (suc (greatest (numbering n))) 1 (numbering n) ∷ [])

-- whether two codes are equal
unfoldable pub same? : (x y : List ℕ) → Dec (x ≡ y)
same? [] [] = yes refl
same? [] (b ∷ y) = no nil≢cons
same? (a ∷ x) [] = no cons≢nil
same? (a ∷ x) (b ∷ y) = step (ℕ_discrete a b) (same? x y)
  where
    step : Dec (a ≡ b) → Dec (x ≡ y) → Dec (◌≡◌ {A = List ℕ} (a ∷ x) (b ∷ y))
    step (yes e) (yes f) = yes (ap₂ ◌∷◌ e f)
    step (yes e) (no n) = no (λ h. n (tail-eq_of_cons-eq h))
    step (no n) f = no (λ h. n (head-eq_of_cons-eq h))
