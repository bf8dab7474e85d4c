-- What else is said of labels beside the number of a vertex's children: one child more or fewer; a code of some tree; the bound on neighbours by the
-- label, of a skeleton and of marks; what is refused of marks. Assumes nothing.
use Rattle.std.specs.Prelude.{◌≡◌, ℕ, suc, ◌+◌, ◌-◌, ◌≤◌, length}
use mathlib.Core.List.{List, [], ◌∷◌, Memᴰ}
use Rattle.refusal.specs.document.Table.{Row}
use Rattle.digit_code.specs.document.Code.{digit, cap, row10, row11, row12, row13}
use Rattle.skeleton.specs.document.Skeleton.{degree, IsTree}
use Rattle.skeleton.specs.document.Label.{Marks, rootedₗ, digits, row20}

module _ (M : Marks) where
  -- a mark that tells of one child more, and of one fewer
  abbrev pub more : ℕ → ℕ
  more m = M.mark (suc (M.arity m)) (M.atom m)

  abbrev pub fewer : ℕ → ℕ
  fewer m = M.mark (M.arity m - 1) (M.atom m)

  -- c is the rooted code of some tree with some labels
  pub record IsRootedₗ (c : List ℕ) : Type 0 where
    pub number : ℕ
    pub edges : List ℕ
    pub label : ℕ → M.Label
    pub root : ℕ
    pub tree : IsTree number edges
    pub inside : (1 ≤ root) × (root ≤ number)
    pub is : c ≡ rootedₗ M label number edges root

  -- no vertex has more neighbours than its label allows
  unfoldable pub Valences : (M.Label → ℕ) → (ℕ → M.Label) → ℕ → List ℕ → Type 0
  Valences most label N E = (v : ℕ) → 1 ≤ v → v ≤ N → degree E v ≤ most (label v)

  -- the same on the marks: the root has no parent among its neighbours, every other vertex has one
  abbrev pub Fits : (M.Label → ℕ) → List ℕ → Type 0
  Fits most [] = ⊥
  Fits most (m ∷ ms) = (M.arity m ≤ most (M.atom m)) × ((d : ℕ) → Memᴰ d ms → M.arity d + 1 ≤ most (M.atom d))

  -- and by places
  abbrev pub Capped : (M.Label → ℕ) → List ℕ → Type 0
  Capped most c = (p : ℕ) → 1 ≤ p → p ≤ length c → M.arity (digit c p) ≤ cap (most (M.atom (digit c p))) p

  -- what is refused of marks, where no vertex has more than R neighbours
  abbrev pub mark_rows : ℕ → (M.Label → ℕ) → List ℕ → List Row
  mark_rows R most c = row10 R (digits M c) ∷ row20 M most c ∷ row11 (digits M c) ∷ row12 (digits M c) ∷ row13 M.arity c ∷ []
