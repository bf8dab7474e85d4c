-- The vertices in the order of a code's digits (`document.Order`): their marks, and how many pairs of digits are looked at where every pair of
-- siblings is compared once.
--
-- In order: the other way to put one in; pairs of marks looked at; the marks of the order. What is compared at a vertex is a mark (m), and what hangs
-- there are its children (K); where these are an edge list's, the marks in their order are its rooted code. Assumes nothing.
use Rattle.std.proofs.Math.Logic.{ite}
use mathlib.Core.List.{List, [], ◌∷◌, map, flatten}
use Rattle.std.specs.Prelude.{ℕ, zero, suc, ◌+◌}
use Rattle.laws.specs.document.Order.{dec≽, sort}
use Rattle.digit_code.specs.document.Code.{sum}
use Rattle.digit_code.specs.Compare.{looked}
use Rattle.numbering.specs.document.Order.{order_by}

-- c put before the first of ds whose key is smaller than its own
unfoldable pub place : (List ℕ → List ℕ) → List ℕ → List (List ℕ) → List (List ℕ)
place f c [] = c ∷ []
place f c (d ∷ ds) = ite (dec≽ (f d) (f c)) (d ∷ place f c ds) (c ∷ d ∷ ds)

-- how many pairs are looked at where every two of cs are compared once
unfoldable pub pairs : List (List ℕ) → ℕ
pairs [] = 0
pairs (c ∷ cs) = sum (map (looked c) cs) + pairs cs

module _ (m : ℕ → ℕ) (K : ℕ → ℕ → List ℕ) where
  -- the marks in that order
  unfoldable pub marks_by : ℕ → ℕ → ℕ → List ℕ
  marks_by zero p v = []
  marks_by (suc n) p v = m v ∷ flatten (sort (map (marks_by n v) (K p v)))

  -- the pairs of marks looked at: at each vertex those of every pair of its children, and below
  unfoldable pub pairs_by : ℕ → ℕ → ℕ → ℕ
  pairs_by zero p v = 0
  pairs_by (suc n) p v = sum (map (pairs_by n v) (K p v)) + pairs (map (λ w. map m (order_by m K n v w)) (K p v))
