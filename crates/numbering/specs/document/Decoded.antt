-- Document 01, "Numbering by code": "The vertex of the i-th digit gets number i. Decoding gives the edges (parent, child) for child 2 to N
-- in that order." What this is of the edges of a right code; that `decode` gives them so is `decoded`. Assumes nothing.
use Rattle.std.specs.Prelude.{◌≡◌, List, [], ◌∷◌, map, ℕ, zero, suc, ◌+◌, ◌-◌, ◌*◌, ◌≤◌, ◌<◌, length, get_or}
use Rattle.digit_code.specs.document.Code.{plain, digit, child_codes, decode}
use Rattle.skeleton.specs.document.Skeleton.{arcs, neighbours, children, code_at}

-- the first digits of codes that stand one behind the other, from digit j on
unfoldable pub starts : ℕ → List (List ℕ) → List ℕ
starts j [] = []
starts j (c ∷ cs) = j ∷ starts (j + length c) cs

-- where the codes of the children of digit i begin: the first behind the digit itself, each other behind the one before it
unfoldable pub begins : List ℕ → ℕ → List ℕ
begins c i = starts (i + 1) (child_codes plain c i)

-- the parent of vertex i, as the edges have it: the first end of edge i - 1. The root has none, and no vertex is 0
unfoldable pub parent : List ℕ → ℕ → ℕ
parent c zero = 0
parent c (suc zero) = 0
parent c (suc (suc i)) = get_or (decode c) (2 * i) 0

-- vertex i of the tree that c decodes to is that of the i-th digit
pub record IsVertex (c : List ℕ) (i : ℕ) : Type 0 where
  -- edge i - 1 joins its parent, a vertex of a lower number, and itself
  pub edge : 2 ≤ i → (1 ≤ parent c i) × (parent c i < i) × (get_or (decode c) (2 * (i - 2) + 1) 0 ≡ i)
  -- it has no other neighbour of a lower number: in the order of the edges they are its parent, then its children
  pub near : 2 ≤ i → neighbours (arcs (decode c)) i ≡ parent c i ∷ begins c i
  -- its children are numbered where their codes begin
  pub below : children (arcs (decode c)) (parent c i) i ≡ begins c i
  -- they are as many as its digit
  pub many : length (begins c i) ≡ digit c i
  -- what hangs at them has its children's codes, in order
  pub coded : map (code_at (length c) (arcs (decode c)) i) (begins c i) ≡ child_codes plain c i
