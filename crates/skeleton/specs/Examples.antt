-- The definitions, run on document 01's own figures, and with atoms. What rests on `atoms` is in `proofs.Examples`. Assumes nothing.
use Rattle.std.specs.Prelude.{◌≡◌, refl}
use Rattle.std.proofs.Math.Logic.{Dec.not as dec_not}
use mathlib.Core.List.{[], ◌∷◌, flatten}
use Rattle.std.proofs.Math.Decide.{ℕ_discrete, dec_lt}
use Rattle.laws.specs.document.Order.{dec≽, insert, sort}
use Rattle.digit_code.specs.document.Code.{edges_from, decode}
use Rattle.skeleton.specs.document.Skeleton.{arcs, neighbours, children, join, code_at, rooted}

-- 3-methylhexane in 001's numbering, at its centre and at the other middle vertex
centre : rooted 7 (1 ∷ 2 ∷ 2 ∷ 3 ∷ 2 ∷ 4 ∷ 3 ∷ 5 ∷ 1 ∷ 6 ∷ 6 ∷ 7 ∷ []) 2 ≡ 3 ∷ 1 ∷ 1 ∷ 0 ∷ 1 ∷ 0 ∷ 0 ∷ []
unfolding rooted code_at join children neighbours arcs sort insert dec≽ flatten ℕ_discrete dec_lt dec_not
centre = refl

other : rooted 7 (1 ∷ 2 ∷ 2 ∷ 3 ∷ 2 ∷ 4 ∷ 3 ∷ 5 ∷ 1 ∷ 6 ∷ 6 ∷ 7 ∷ []) 1 ≡ 2 ∷ 2 ∷ 1 ∷ 0 ∷ 0 ∷ 1 ∷ 0 ∷ []
unfolding rooted code_at join children neighbours arcs sort insert dec≽ flatten ℕ_discrete dec_lt dec_not
other = refl

-- ---- with atoms

bare : rooted 6 (decode (2 ∷ 1 ∷ 0 ∷ 1 ∷ 1 ∷ 0 ∷ [])) 1 ≡ 2 ∷ 1 ∷ 1 ∷ 0 ∷ 1 ∷ 0 ∷ []
unfolding rooted code_at join decode edges_from children neighbours arcs sort insert dec≽ flatten ℕ_discrete dec_lt dec_not
bare = refl
