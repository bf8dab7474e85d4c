-- The N-tuple code and the centred code where vertices have labels, and row 14 of marks of either form: what `Form` says, with the code at a root over labels. M says how a vertex is
-- written by the number of its children and its label. Assumes nothing.
use Rattle.std.specs.Prelude.{◌≡◌, List, ℕ, length}
use Rattle.refusal.specs.document.Table.{Row}
use Rattle.digit_code.specs.document.Code.{decode}
use Rattle.skeleton.specs.document.Label.{Marks, rootedₗ, digits, labels}
use Rattle.form.specs.document.Form.{NTuple, Centred}

module _ (M : Marks) where
  -- c is the N-tuple code of the skeleton of N vertices with the edges E and the labels l
  abbrev pub IsNTupleₗ : ℕ → List ℕ → (ℕ → M.Label) → List ℕ → Type 0
  IsNTupleₗ N E l c = NTuple N E (rootedₗ M l N E) c

  -- c is its centred code
  abbrev pub IsCentredₗ : ℕ → List ℕ → (ℕ → M.Label) → List ℕ → Type 0
  IsCentredₗ N E l c = Centred N E (rootedₗ M l N E) c

  -- c is the code of what it decodes to
  abbrev pub Own : (ℕ → List ℕ → (ℕ → M.Label) → List ℕ → Type 0) → List ℕ → Type 0
  Own form c = form (length c) (decode (digits M c)) (labels M c) c

  -- 14: a right rooted code is not of the form asked for
  abbrev pub row14ₗ : (ℕ → List ℕ → (ℕ → M.Label) → List ℕ → Type 0) → List ℕ → Row
  row14ₗ form c = record { number = 14; applies = λ p. (p ≡ 0) × (Own form c → ⊥) }
