-- Document 01, "Codes": the centred code, told by the marks alone; a plain code's marks are its digits. The root is in the centre where its two tallest branches are equally
-- tall, or differ by one; in the latter case the root of the tallest branch is the other vertex of the centre, and the code there is
-- compared.
--
-- In order: heights; the code at the root of a branch; the test. That the test is document 01's is in `Theorems`. Places count from 0.
-- Assumes nothing.
use Rattle.std.specs.Prelude.{◌≡◌, ◌⊎◌, ℕ, suc, max, length, get_or, take, drop}
use Rattle.std.proofs.Math.Logic.{ite}
use mathlib.Core.List.{List, [], ◌∷◌, ◌++◌, flatten}
use Rattle.std.proofs.Math.Decide.{dec_lt}
use Rattle.laws.specs.document.Order.{◌≽◌, insert}
use Rattle.laws.specs.Part.{part}
use Rattle.digit_code.specs.document.Code.{codes}
use Rattle.digit_code.specs.Digits.{digits}
use Rattle.skeleton.specs.document.Label.{Marks}
use Rattle.skeleton.specs.Label.{more, fewer}

-- the greatest, 0 where there is none
unfoldable pub top : List ℕ → ℕ
top [] = 0
top (h ∷ l) = max h (top l)

-- the place of the first greatest
unfoldable pub peak : List ℕ → ℕ
peak [] = 0
peak (h ∷ l) = ite (dec_lt h (top l)) (suc (peak l)) 0

-- the greatest of the others
unfoldable pub second : List ℕ → ℕ
second [] = 0
second (h ∷ l) = ite (dec_lt h (top l)) (max h (second l)) (top l)

-- the heights of the trees that the digits make, one behind the other
unfoldable pub heights : List ℕ → List ℕ
heights [] = []
heights (k ∷ ds) = suc (top (take k (heights ds))) ∷ drop k (heights ds)

module _ (M : Marks) where
  -- the heights of the root's branches
  abbrev pub tops : List ℕ → List ℕ
  tops c = heights (digits M.arity (drop 1 c))

  -- where branch i of the root begins
  unfoldable pub branch : List ℕ → ℕ → ℕ
  branch c i = suc (length (flatten (take i (codes M.arity (drop 1 c)))))

  -- the code that is left where the branch from x to e is taken off
  unfoldable pub rest : List ℕ → ℕ → ℕ → List ℕ
  rest c x e = fewer M (get_or c 0 0) ∷ (part 1 x c ++ drop e c)

  -- the code at the root of that branch: what is left is put among its children
  unfoldable pub turned : List ℕ → ℕ → ℕ → List ℕ
  turned c x e = more M (get_or c x 0) ∷ flatten (insert (rest c x e) (take (M.arity (get_or c x 0)) (codes M.arity (drop (suc x) c))))

  -- the code at the root of the first tallest branch
  unfoldable pub other : List ℕ → List ℕ
  other c = turned c (branch c (peak (tops c))) (branch c (suc (peak (tops c))))

  -- the root is in the centre, and no other code there is larger
  abbrev pub Middle : List ℕ → Type 0
  Middle c = (top (tops c) ≡ second (tops c)) ⊎ ((top (tops c) ≡ suc (second (tops c))) × (c ≽ other c))
