-- The definitions, run on document 01's own figures: CAM (1,2,2,3,1,6) with N = 7, its edges in another order, and 0A and A0 decoded; and
-- the range of 0A. 001's line itself is in the P table, `Figures` of the crate `zurkhovel`. Assumes nothing.
use Rattle.std.specs.Prelude.{◌≡◌, refl, List, [], ◌∷◌, ℕ}
use Rattle.std.proofs.Math.Decide.{ℕ_discrete, dec_lt}
use Rattle.digit_code.specs.document.Code.{sum}
use Rattle.skeleton.specs.document.Skeleton.{arcs, neighbours}
use Rattle.adjacency.specs.document.Mixed.{mixed, mixed_digits, quotient}
use Rattle.adjacency.specs.document.Adjacency.{from, lower, entry, cam, entry_edges, cam_edges_lem, zero_a_lem, zero_cam_lem, column_sum, powers, a_zero_lem, rows, tied, columns, a_edges_lem}

abbrev given : List ℕ
given = 1 ∷ 2 ∷ 2 ∷ 3 ∷ 1 ∷ 6 ∷ []

-- 3-methylhexane, its edges in no order
abbrev edges : List ℕ
edges = 7 ∷ 6 ∷ 1 ∷ 2 ∷ 4 ∷ 2 ∷ 2 ∷ 3 ∷ 1 ∷ 6 ∷ 5 ∷ 3 ∷ []

its_cam : cam 7 edges ≡ given
unfolding from lower entry cam arcs neighbours ℕ_discrete dec_lt
its_cam = refl

its_a_zero : a_zero_lem 7 edges ≡ 1646688
unfolding from lower arcs neighbours mixed column_sum powers a_zero_lem sum ℕ_discrete dec_lt
its_a_zero = refl

-- "the values are 0 to (N-1)!-1": a chain of four, numbered along, has the last
of_chain : zero_a_lem (1 ∷ 2 ∷ 3 ∷ []) ≡ 5
unfolding from zero_a_lem mixed
of_chain = refl

-- decoded
from-zero_a : zero_cam_lem 7 545 ≡ given
unfolding from zero_cam_lem mixed_digits quotient
from-zero_a = refl

from-a_zero : a_edges_lem 7 1646688 ≡ cam_edges_lem given
unfolding from entry_edges mixed_digits quotient powers rows tied columns a_edges_lem
from-a_zero = refl

-- two rows in one column, ascending
two-rows : a_edges_lem 3 3 ≡ 1 ∷ 3 ∷ 2 ∷ 3 ∷ []
unfolding from mixed_digits quotient powers rows tied columns a_edges_lem
two-rows = refl
