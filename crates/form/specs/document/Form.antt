-- Document 01, "Codes": the N-tuple code and the centred code, and row 14 of "Refusal numbers" for digits of either form.
--
-- `at v` is the code at the root v; for the codes of document 01 it is `rooted N E v`. What a longest path and the centre are is in the
-- crate `longest_path`. Assumes nothing.
use Rattle.std.specs.Prelude.{◌≡◌, ◌⊎◌, List, [], ◌∷◌, ◌++◌, ℕ, ◌≤◌, length}
use Rattle.laws.specs.document.Order.{◌≽◌}
use Rattle.refusal.specs.document.Table.{Row}
use Rattle.digit_code.specs.document.Code.{decode, code_rows}
use Rattle.skeleton.specs.document.Skeleton.{degree, rooted}
use Rattle.longest_path.specs.document.Path.{IsCentre}

-- "Of the rooted codes over all roots of maximum degree, the largest."
pub record NTuple (N : ℕ) (E : List ℕ) (at : ℕ → List ℕ) (c : List ℕ) : Type 0 where
  pub root : ℕ
  pub inside : (1 ≤ root) × (root ≤ N)
  pub maximum : (v : ℕ) → 1 ≤ v → v ≤ N → degree E v ≤ degree E root
  pub is : c ≡ at root
  pub largest : (v : ℕ) → 1 ≤ v → v ≤ N → degree E v ≡ degree E root → c ≽ at v

-- "The centred code is the rooted code at the centre, the larger where there are two."
pub record Centred (N : ℕ) (E : List ℕ) (at : ℕ → List ℕ) (c : List ℕ) : Type 0 where
  pub first : ℕ
  pub second : ℕ
  pub centre : IsCentre N E first second
  pub either : (c ≡ at first) ⊎ (c ≡ at second)
  pub above-first : c ≽ at first
  pub above-second : c ≽ at second

-- c is the N-tuple code of the skeleton of N vertices with the edges E
abbrev pub IsNTuple : ℕ → List ℕ → List ℕ → Type 0
IsNTuple N E c = NTuple N E (rooted N E) c

-- c is its centred code
abbrev pub IsCentred : ℕ → List ℕ → List ℕ → Type 0
IsCentred N E c = Centred N E (rooted N E) c

-- l is made of the centred code by f
abbrev pub OfCentred : ℕ → List ℕ → (List ℕ → List ℕ) → List ℕ → Type 0
OfCentred N E f l = (c : List ℕ) × IsCentred N E c × (l ≡ f c)

-- 14: a right rooted code is not of the form asked for
abbrev pub row14_form : (ℕ → List ℕ → List ℕ → Type 0) → List ℕ → Row
row14_form form c = record { number = 14; applies = λ p. (p ≡ 0) × (form (length c) (decode c) c → ⊥) }

-- what is refused of digits that are to be of a form
abbrev pub form_rows : (ℕ → List ℕ → List ℕ → Type 0) → ℕ → ℕ → List ℕ → List Row
form_rows form most R c = code_rows most R c ++ (row14_form form c ∷ [])
