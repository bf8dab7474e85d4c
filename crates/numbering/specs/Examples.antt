-- The definitions, run on document 01's own figures; and the pairs of digits looked at. Assumes nothing.
use Rattle.std.specs.Prelude.{◌≡◌, refl, ℕ, get_or}
use Rattle.std.proofs.Common.{ap, arith}
use Rattle.std.proofs.Math.Logic.{Dec.not as dec_not}
use mathlib.Core.List.{List, [], ◌∷◌, map, flatten}
use Rattle.std.proofs.Math.Decide.{ℕ_discrete, dec_le, dec_lt}
use Rattle.laws.specs.document.Order.{dec≽, insert, sort}
use Rattle.digit_code.specs.document.Code.{sum, codes, child_codes, decode, edges_from}
use Rattle.skeleton.specs.document.Skeleton.{arcs, neighbours, degree, children, join, code_at, rooted}
use Rattle.numbering.specs.document.Order.{insert_by, sort_by, order_by, kids_of, order}
use Rattle.numbering.specs.document.Decoded.{starts, begins, parent}
use Rattle.numbering.specs.document.Pairs.{digit_pairs, sibling_pairs, pairs_at, rooted_pairs, log2}

-- 002's example
abbrev example : List ℕ
example = 3 ∷ 2 ∷ 1 ∷ 0 ∷ 0 ∷ 1 ∷ 0 ∷ 0 ∷ []

of_root : begins example 1 ≡ 2 ∷ 6 ∷ 8 ∷ []
unfolding begins starts child_codes codes flatten
of_root = refl

of_second : begins example 2 ≡ 3 ∷ 5 ∷ []
unfolding begins starts child_codes codes flatten
of_second = refl

its_children : children (arcs (decode example)) (parent example 2) 2 ≡ 3 ∷ 5 ∷ []
unfolding children neighbours arcs decode edges_from parent ℕ_discrete dec_not
its_children = refl

their_codes : map (code_at 8 (arcs (decode example)) 1) (begins example 1) ≡ (2 ∷ 1 ∷ 0 ∷ 0 ∷ []) ∷ (1 ∷ 0 ∷ []) ∷ (0 ∷ []) ∷ []
unfolding begins starts child_codes codes flatten code_at join children neighbours arcs decode edges_from sort insert dec≽ ℕ_discrete dec_lt dec_not
their_codes = refl

-- the same tree numbered breadth first has the same code, and is not what the code decodes to
abbrev breadth_first : List ℕ
breadth_first = 1 ∷ 2 ∷ 1 ∷ 3 ∷ 1 ∷ 4 ∷ 2 ∷ 5 ∷ 2 ∷ 6 ∷ 3 ∷ 7 ∷ 5 ∷ 8 ∷ []

same_code : rooted 8 breadth_first 1 ≡ example
unfolding rooted code_at join children neighbours arcs sort insert dec≽ flatten ℕ_discrete dec_lt dec_not
same_code = refl

not_decoded : children (arcs breadth_first) 0 1 ≡ begins example 1 → ⊥
unfolding children neighbours arcs begins starts child_codes codes flatten ℕ_discrete dec_not
not_decoded e = let z : ◌≡◌ {A = ℕ} 3 6 = ap (λ l. get_or l 1 0) e in omega arith

-- 3-methylhexane in 001's numbering, at its centre: the vertices of the digits 3110100
abbrev methylhexane : List ℕ
methylhexane = 1 ∷ 2 ∷ 2 ∷ 3 ∷ 2 ∷ 4 ∷ 3 ∷ 5 ∷ 1 ∷ 6 ∷ 6 ∷ 7 ∷ []

by_code : order 7 methylhexane 2 ≡ 2 ∷ 1 ∷ 6 ∷ 7 ∷ 3 ∷ 5 ∷ 4 ∷ []
unfolding order order_by sort_by insert_by kids_of degree children neighbours arcs dec≽ flatten ℕ_discrete dec_lt dec_not
by_code = refl

-- of equal siblings the one whose edge is listed first goes first
first-listed : order 4 (3 ∷ 2 ∷ 4 ∷ 3 ∷ 3 ∷ 1 ∷ []) 3 ≡ 3 ∷ 2 ∷ 4 ∷ 1 ∷ []
unfolding order order_by sort_by insert_by kids_of degree children neighbours arcs dec≽ flatten ℕ_discrete dec_lt dec_not
first-listed = refl

-- there 110, 10 and 0 are compared: two pairs, one and one
of_methylhexane : rooted_pairs 7 methylhexane 2 ≡ 4
unfolding rooted_pairs pairs_at sibling_pairs digit_pairs sum code_at join children neighbours arcs sort insert dec≽ flatten ℕ_discrete dec_lt dec_not
of_methylhexane = refl

-- neopentane at its centre: six pairs of leaves; at another vertex, three
abbrev neopentane : List ℕ
neopentane = 1 ∷ 2 ∷ 1 ∷ 3 ∷ 1 ∷ 4 ∷ 1 ∷ 5 ∷ []

of_neopentane : rooted_pairs 5 neopentane 1 ≡ 6
unfolding rooted_pairs pairs_at sibling_pairs digit_pairs sum code_at join children neighbours arcs sort insert dec≽ flatten ℕ_discrete dec_lt dec_not
of_neopentane = refl

beside_centre : rooted_pairs 5 neopentane 2 ≡ 3
unfolding rooted_pairs pairs_at sibling_pairs digit_pairs sum code_at join children neighbours arcs sort insert dec≽ flatten ℕ_discrete dec_lt dec_not
beside_centre = refl

-- the bound of one vertex is 0; that of 64 vertices is 3 * 64 * 6
log2-one : log2 1 ≡ 0
unfolding log2 dec_le
log2-one = refl

log2_most : log2 64 ≡ 6
unfolding log2 dec_le
log2_most = refl
