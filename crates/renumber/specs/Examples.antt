-- The definitions, run on figures: butane from 1 2 2 3 3 4 to 3 1 1 4 4 2, whose middle vertices are 2 and 3, and 1 and 4. Assumes nothing.
use Rattle.std.specs.Prelude.{◌≡◌, refl, ℕ}
use Rattle.std.proofs.Common.{inl, inr, arith}
use Rattle.std.proofs.Math.Logic.{Dec.not as dec_not}
use mathlib.Core.List.{List, [], ◌∷◌, flatten}
use Rattle.std.proofs.Math.Decide.{ℕ_discrete, dec_lt}
use Rattle.laws.specs.document.Order.{dec≽}
use Rattle.skeleton.specs.document.Skeleton.{arcs, neighbours, degree, children}
use Rattle.numbering.specs.document.Order.{insert_by, sort_by, order_by, kids_of, order}
use Rattle.renumber.specs.document.Map.{image, row5_map, row18}

abbrev butane : List ℕ
butane = 1 ∷ 2 ∷ 2 ∷ 3 ∷ 3 ∷ 4 ∷ []

abbrev other : List ℕ
other = 3 ∷ 1 ∷ 1 ∷ 4 ∷ 4 ∷ 2 ∷ []

-- the digits 2100 from the lower middle vertex on, in either list; so 2 goes to 1, 3 to 4, 4 to 2 and 1 to 3
of_first : order 4 butane 2 ≡ 2 ∷ 3 ∷ 4 ∷ 1 ∷ []
unfolding order order_by sort_by insert_by kids_of degree children neighbours arcs dec≽ flatten ℕ_discrete dec_lt dec_not
of_first = refl

of_second : order 4 other 1 ≡ 1 ∷ 4 ∷ 2 ∷ 3 ∷ []
unfolding order order_by sort_by insert_by kids_of degree children neighbours arcs dec≽ flatten ℕ_discrete dec_lt dec_not
of_second = refl

-- entry v is where vertex v goes
sends : image (3 ∷ 1 ∷ 4 ∷ 2 ∷ []) 3 ≡ 4
sends = refl

-- three entries for four vertices; a 5 among four; a number for the second time, at the later entry
short : (row5_map 4 4 (3 ∷ 1 ∷ 4 ∷ [])).applies 0
short = (refl, λ h. omega (arith, h.1))

outside : (row18 4 (3 ∷ 1 ∷ 5 ∷ 2 ∷ [])).applies 3
outside = ((omega arith, omega arith), inl (inr (omega arith)))

repeated : (row18 4 (3 ∷ 1 ∷ 3 ∷ 2 ∷ [])).applies 3
repeated = ((omega arith, omega arith), inr (1, omega arith, omega arith, refl))
