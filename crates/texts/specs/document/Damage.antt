-- Demand 3: what a changed byte is, and records among others in their order. The statements are in `Demand`. Assumes nothing.
use Rattle.std.specs.Prelude.{◌≡◌, List, [], ◌∷◌, ◌++◌, ℕ, suc}
use Rattle.refusal.specs.document.Table.{Outcome, gives, refuses}

-- one byte of t is replaced by another, or lost, or one is put in, and this gives u
pub data Change (t u : List ℕ) : Type 0 where
  replaced : (x : List ℕ) (a b : ℕ) (y : List ℕ) → (a ≡ b → ⊥) → t ≡ x ++ (a ∷ y) → u ≡ x ++ (b ∷ y) → Change t u
  lost : (x : List ℕ) (a : ℕ) (y : List ℕ) → t ≡ x ++ (a ∷ y) → u ≡ x ++ y → Change t u
  put_in : (x : List ℕ) (b : ℕ) (y : List ℕ) → t ≡ x ++ y → u ≡ x ++ (b ∷ y) → Change t u

-- some of ds, in their order
pub data Among {A : Type 0} : List A → List A → Type 0 where
  end : Among [] []
  keep : {c : A} {cs ds : List A} → Among cs ds → Among (c ∷ cs) (c ∷ ds)
  skip : {d : A} {cs ds : List A} → Among cs ds → Among cs (d ∷ ds)

-- the records among the answers
unfoldable pub records : {A : Type 0} → List (Outcome A) → List A
records [] = []
records (gives c ∷ os) = c ∷ records os
records (refuses k p ∷ os) = records os

-- how many answers are refusals
unfoldable pub refusals : {A : Type 0} → List (Outcome A) → ℕ
refusals [] = 0
refusals (gives c ∷ os) = refusals os
refusals (refuses k p ∷ os) = suc (refusals os)
