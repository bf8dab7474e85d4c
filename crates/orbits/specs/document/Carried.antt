-- Document 02, wish 3: "Two vertices are in one class exactly when some relabelling that keeps all edges carries one to the other." It
-- takes the place of document 01's rule of depth and subtree code; "keep the numbering by first appearance."
--
-- A relabelling that keeps all edges is a renumbering of the skeleton onto itself, by the same `Renumbering` that says what one skeleton under
-- other numbers is. c is a centred code by its digits, and the vertex of the i-th digit has number i. What numbering by first appearance is, is
-- in `Numbering`; that there is one such list of classes is in `Theorems`. Assumes nothing.
use Rattle.std.specs.Prelude.{◌≡◌, List, ℕ, length}
use Rattle.digit_code.specs.document.Code.{decode}
use Rattle.skeleton.specs.document.Skeleton.{Renumbering}
use Rattle.skeleton.specs.document.Label.{Marks, digits, labels, Keeps}
use Rattle.orbits.specs.document.Numbering.{ByAppearance}

-- some renumbering of the skeleton of N vertices with the edges E onto itself, keeping all edges, carries u to v
abbrev pub Carried : ℕ → List ℕ → ℕ → ℕ → Type 0
Carried N E u v = (ρ : Renumbering N E E) × (ρ.to u ≡ v)

-- l: the class of each vertex in the numbering of the code c, one for two vertices exactly when one is carried to the other
abbrev pub ClassesOf : List ℕ → List ℕ → Type 0
ClassesOf c l = ByAppearance (Carried (length c) (decode c)) (length c) l

-- the same where vertices have labels, which the renumbering keeps: "Vertex classes and renumberings must keep the atoms too" (wish 7)
abbrev pub Carriedₗ : (M : Marks) → ℕ → List ℕ → (ℕ → M.Label) → ℕ → ℕ → Type 0
Carriedₗ M N E l u v = (ρ : Renumbering N E E) × (ρ.to u ≡ v) × Keeps M N E E l l ρ

-- l: the classes in the numbering of the code c of marks
abbrev pub ClassesOfₗ : Marks → List ℕ → List ℕ → Type 0
ClassesOfₗ M c l = ByAppearance (Carriedₗ M (length c) (decode (digits M c)) (labels M c)) (length c) l
