-- Document 01, "Codes", under CAM, 0A and A0, and their rows of "Refusal numbers".
--
-- In order: lower neighbours, physical numberings and 14; CAM; 0A; A0; the rows and tables of decoding. CAM, 0A and A0 are of an edge
-- list in its own numbering. What a number in a mixed base is stands in `Mixed`, the rows of the edges that are made in the crate
-- `skeleton`, what is proved of all this in `Theorems`. Assumes nothing.
use Rattle.std.specs.Prelude.{◌≡◌, ℕ, zero, suc, ◌-◌, ◌*◌, ◌/◌, ◌%◌, ◌^◌, ◌≤◌, ◌<◌, length, get_or, drop}
use mathlib.Core.List.{List, [], ◌∷◌, ◌++◌, map, filter}
use Rattle.std.proofs.Math.Decide.{dec_lt}
use Rattle.std.specs.Int.Count.{ones}
use Rattle.refusal.specs.document.Table.{Row, Outside, row3}
use Rattle.digit_code.specs.document.Code.{sum}
use Rattle.skeleton.specs.document.Skeleton.{arcs, neighbours}
use Rattle.edge_list.specs.document.Edges.{row7, row8, row9}
use Rattle.adjacency.specs.document.Mixed.{mixed, mixed_digits}

-- n numbers from i up
unfoldable pub from : ℕ → ℕ → List ℕ
from i zero = []
from i (suc n) = i ∷ from (suc i) n

-- ---- lower neighbours

-- the neighbours of v with a lower number
unfoldable pub lower : List ℕ → ℕ → List ℕ
lower E v = filter {p = λ w. w < v} (λ w. dec_lt w v) (neighbours (arcs E) v)

-- exactly one
abbrev pub OneLower : List ℕ → ℕ → Type 0
OneLower E v = length (lower E v) ≡ 1

-- "A numbering is physical when each vertex 2 to N has exactly one lower-numbered neighbour."
pub record Physical (N : ℕ) (E : List ℕ) : Type 0 where
  pub only : (v : ℕ) → 2 ≤ v → v ≤ N → OneLower E v

-- 14: the numbering is not physical; the place is the lowest vertex from 2 up without exactly one lower neighbour
abbrev pub row14_physical : ℕ → List ℕ → Row
row14_physical N E = record { number = 14; applies = λ p. (2 ≤ p) × (p ≤ N) × (OneLower E p → ⊥) }

-- ---- CAM

-- CAM(i), the lower neighbour of vertex i+1
unfoldable pub entry : List ℕ → ℕ → ℕ
entry E i = get_or (lower E (suc i)) 0 0

-- CAM(1) to CAM(N-1)
unfoldable pub cam : ℕ → List ℕ → List ℕ
cam N E = map (entry E) (from 1 (N - 1))

-- the edges of entries that begin with number i: each to the vertex one above its number
unfoldable pub entry_edges : ℕ → List ℕ → List ℕ
entry_edges i [] = []
entry_edges i (x ∷ c) = x ∷ suc i ∷ entry_edges (suc i) c

-- the edges that a CAM decodes to: "(lower, higher) pairs in order of the higher"
abbrev pub cam_edges_lem : List ℕ → List ℕ
cam_edges_lem c = entry_edges 1 c

-- ---- 0A

-- "With X(i) = CAM(i+1), i = 1 to N-2: begin with 0, and for each i multiply by i+1 and add X(i)-1."
unfoldable pub zero_a_lem : List ℕ → ℕ
zero_a_lem c = let X = drop 1 c in mixed 0 (from 2 (length X)) (map (λ x. x - 1) X)

-- n!
unfoldable pub factorial : ℕ → ℕ
factorial zero = 1
factorial (suc n) = suc n * factorial n

-- the CAM of N - 1 entries that the 0A x decodes to
unfoldable pub zero_cam_lem : ℕ → ℕ → List ℕ
zero_cam_lem zero x = []
zero_cam_lem (suc zero) x = []
zero_cam_lem (suc (suc n)) x = 1 ∷ map suc (mixed_digits (from 2 n) x)

-- ---- A0

-- 2^(r-1), added up over the rows r of a column
unfoldable pub column_sum : List ℕ → ℕ
column_sum rs = sum (map (λ r. 2 ^ (r - 1)) rs)

-- "BIN(i) is the sum of 2^(r-1) over neighbours r <= i of vertex i+1."
abbrev pub bin : List ℕ → ℕ → ℕ
bin E i = column_sum (lower E (suc i))

-- 2^i, for i = 1 to N-1
unfoldable pub powers : ℕ → List ℕ
powers N = map (λ i. 2 ^ i) (from 1 (N - 1))

-- "Begin with 0, and for each i = 1 to N-1 multiply by 2^i and add BIN(i)."
unfoldable pub a_zero_lem : ℕ → List ℕ → ℕ
a_zero_lem N E = mixed 0 (powers N) (map (bin E) (from 1 (N - 1)))

-- r stands in front where the bit is one
abbrev pub put : ℕ → ℕ → List ℕ → List ℕ
put zero r l = l
put (suc bit) r l = r ∷ l

-- the rows, from r up, that are ones among the k lowest bits of b
unfoldable pub rows : ℕ → ℕ → ℕ → List ℕ
rows r zero b = []
rows r (suc k) b = put (b % 2) r (rows (suc r) k (b / 2))

-- the edges from each of rs to v
unfoldable pub tied : ℕ → List ℕ → List ℕ
tied v [] = []
tied v (r ∷ rs) = r ∷ v ∷ tied v rs

-- "Its edges are taken by column, rows ascending": BIN(i) first, then the columns behind it
unfoldable pub columns : ℕ → List ℕ → List ℕ
columns i [] = []
columns i (b ∷ bs) = tied (suc i) (rows 1 i b) ++ columns (suc i) bs

-- the edges that the A0 x decodes to
unfoldable pub a_edges_lem : ℕ → ℕ → List ℕ
a_edges_lem N x = columns 1 (mixed_digits (powers N) x)

-- ---- the rows of decoding

-- 4: a whole number is outside its form's range, 0 to top - 1
abbrev pub row4_number : ℕ → ℕ → Row
row4_number top x = record { number = 4; applies = λ p. (p ≡ 0) × (top ≤ x) }

-- 5: a CAM has not N-1 entries
abbrev pub row5_cam : ℕ → List ℕ → Row
row5_cam N c = record { number = 5; applies = λ p. (p ≡ 0) × (length c ≡ N - 1 → ⊥) }

-- 5: an A0 has not N-1 ones
abbrev pub row5_ones : ℕ → ℕ → Row
row5_ones N x = record { number = 5; applies = λ p. (p ≡ 0) × (ones x ≡ N - 1 → ⊥) }

-- 6: a CAM entry is 0 or above its i; the place is i
abbrev pub row6-cam : List ℕ → Row
row6-cam c = record { number = 6; applies = λ p. (1 ≤ p) × (p ≤ length c) × Outside p (get_or c (p - 1) 0) }

-- 7, 8 and 9 of the edges E that a form makes; R is the number of edges that a vertex may have
abbrev pub made_rows : ℕ → List ℕ → List Row
made_rows R E = row7 E ∷ row8 E ∷ row9 R E ∷ []

-- what is refused of a CAM, with N beside it
abbrev pub cam_rows : ℕ → ℕ → ℕ → List ℕ → List Row
cam_rows most R N c = row3 most N ∷ row5_cam N c ∷ row6-cam c ∷ made_rows R (cam_edges_lem c)

-- of a 0A: "the values are 0 to (N-1)!-1"
abbrev pub zero_rows : ℕ → ℕ → ℕ → ℕ → List Row
zero_rows most R N x = row3 most N ∷ row4_number (factorial (N - 1)) x ∷ made_rows R (cam_edges_lem (zero_cam_lem N x))

-- of an A0: "the values are below 2^(N(N-1)/2)"
abbrev pub a_rows : ℕ → ℕ → ℕ → ℕ → List Row
a_rows most R N x = row3 most N ∷ row4_number (2 ^ (N * (N - 1) / 2)) x ∷ row5_ones N x ∷ made_rows R (a_edges_lem N x)
