-- Document 01, "Codes", on the digits alone: where a rooted code ends, the children's codes in it, and the edges that it decodes to;
-- then rows 10 to 13 of "Refusal numbers" for a digit code lent by itself.
--
-- What is compared at a vertex is its mark: a number from which `arity` tells how many children the vertex has. A plain code's mark is
-- its digit. Codes end, decode and are capped by their digits; the children's codes in them, and row 13, are of marks.
--
-- What the rooted code of a skeleton is, and that a right digit code is one, is in the crate `skeleton`. Assumes nothing.
use Rattle.std.specs.Prelude.{◌≡◌, ℕ, zero, suc, ◌+◌, ◌-◌, ◌≤◌, ◌<◌, length, get_or, take, drop, replicate}
use mathlib.Core.List.{List, [], ◌∷◌, ◌++◌, flatten}
use Rattle.laws.specs.document.Order.{◌≽◌}
use Rattle.refusal.specs.document.Table.{Row, row3}

-- digit number p, from 1
abbrev pub digit : List ℕ → ℕ → ℕ
digit c p = get_or c (p - 1) 0

-- the sum of the digits
unfoldable pub sum : List ℕ → ℕ
sum [] = 0
sum (k ∷ ds) = k + sum ds

-- "The code ends at the first position where the sum of the digits so far is less than the position."
pub record EndsAt (c : List ℕ) (e : ℕ) : Type 0 where
  pub within : e ≤ length c
  pub less : sum (take e c) < e
  pub not_before : (i : ℕ) → i < e → i ≤ sum (take i c)

-- a plain code's marks are its digits
abbrev pub plain : ℕ → ℕ
plain k = k

module _ (arity : ℕ → ℕ) where
  -- the codes that the marks make, one behind the other: a mark takes the next of those behind it for its children, as many as it has
  unfoldable pub codes : List ℕ → List (List ℕ)
  codes [] = []
  codes (m ∷ ms) = (m ∷ flatten (take (arity m) (codes ms))) ∷ drop (arity m) (codes ms)

  -- the codes of the children of mark v
  unfoldable pub child_codes : List ℕ → ℕ → List (List ℕ)
  child_codes c v = take (arity (digit c v)) (codes (drop v c))

-- "The vertex of the i-th digit gets number i." W: the places still open, nearest first, each by the number of the vertex whose
-- child is to stand there; j: the vertex of the next digit.
unfoldable pub edges_from : List ℕ → ℕ → List ℕ → List ℕ
edges_from W j [] = []
edges_from [] j (k ∷ ds) = []
edges_from (p ∷ W) j (k ∷ ds) = p ∷ j ∷ edges_from (replicate k j ++ W) (suc j) ds

-- "Decoding gives the edges (parent, child) for child 2 to N in that order."
unfoldable pub decode : List ℕ → List ℕ
decode [] = []
decode (k ∷ ds) = edges_from (replicate k 1) 2 ds

-- the root's digit is at most R, every other at most R - 1
abbrev pub cap : ℕ → ℕ → ℕ
cap R zero = R
cap R (suc zero) = R
cap R (suc (suc p)) = R - 1

module _ (arity : ℕ → ℕ) where
  -- of the children of mark v, the one whose code begins at mark p has a larger code than the sibling before it
  pub record LargerOf (c : List ℕ) (v p : ℕ) : Type 0 where
    pub before : ℕ
    pub siblings : suc before < length (child_codes arity c v)
    pub larger : get_or (child_codes arity c v) before [] ≽ get_or (child_codes arity c v) (suc before) [] → ⊥
    pub begins : p ≡ v + 1 + length (flatten (take (suc before) (child_codes arity c v)))

  -- at mark p begins a child's code that is larger than that of the sibling before it
  pub record Larger (c : List ℕ) (p : ℕ) : Type 0 where
    pub parent : ℕ
    pub some : 1 ≤ parent
    pub child : LargerOf c parent p

-- 10: a digit is above R at the root or above R - 1 elsewhere; the place is the digit
abbrev pub row10 : ℕ → List ℕ → Row
row10 R c = record { number = 10; applies = λ p. (1 ≤ p) × (p ≤ length c) × (cap R p < digit c p) }

-- 11: the code has ended and more follows; the place is the first digit number after the end
abbrev pub row11 : List ℕ → Row
row11 c = record { number = 11; applies = λ p. (p ≤ length c) × EndsAt c (p - 1) }

-- 12: the code has not ended where the input does; the place is the whole digits read
abbrev pub row12 : List ℕ → Row
row12 c = record { number = 12; applies = λ p. (p ≡ length c) × ((e : ℕ) → EndsAt c e → ⊥) }

-- 13: a child's code is larger than that of the sibling before it; the place is its first digit
abbrev pub row13 : (ℕ → ℕ) → List ℕ → Row
row13 arity c = record { number = 13; applies = λ p. Larger arity c p }

-- what is refused of digits, whatever carries them
abbrev pub digit_rows : ℕ → List ℕ → List Row
digit_rows R c = row10 R c ∷ row11 c ∷ row12 c ∷ row13 plain c ∷ []

-- what is refused of a digit code lent by itself, which 3 does where it is empty or over `most`
abbrev pub code_rows : ℕ → ℕ → List ℕ → List Row
code_rows most R c = row3 most (length c) ∷ digit_rows R c
