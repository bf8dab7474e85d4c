-- The definitions, run on document 01's own figures. Assumes nothing.
use Rattle.std.specs.Prelude.{◌≡◌, refl}
use Rattle.std.proofs.Common.{inl, inr, ⊎_elim, arith}
use mathlib.Core.List.{[], ◌∷◌, flatten}
use Rattle.digit_code.specs.document.Code.{plain, codes, decode, edges_from}
use Rattle.digit_code.specs.Ordered.{Ordered}

-- 2-methylpentane, rooted at its centre
decoded : decode (2 ∷ 2 ∷ 0 ∷ 0 ∷ 1 ∷ 0 ∷ []) ≡ 1 ∷ 2 ∷ 2 ∷ 3 ∷ 2 ∷ 4 ∷ 1 ∷ 5 ∷ 5 ∷ 6 ∷ []
unfolding decode edges_from
decoded = refl

branches : codes plain (2 ∷ 0 ∷ 0 ∷ 1 ∷ 0 ∷ []) ≡ (2 ∷ 0 ∷ 0 ∷ []) ∷ (1 ∷ 0 ∷ []) ∷ []
unfolding codes flatten
branches = refl

-- its children's codes go down, and in the refused 2010 they do not
ordered : Ordered plain (2 ∷ 2 ∷ 0 ∷ 0 ∷ 1 ∷ 0 ∷ [])
unfolding codes flatten
ordered = ((inl (omega arith), tt), ((inr (refl, tt), tt), (tt, (tt, (tt, (tt, tt))))))

unordered : Ordered plain (2 ∷ 0 ∷ 1 ∷ 0 ∷ []) → ⊥
unfolding codes flatten
unordered o = ⊎_elim (λ l. let z : ⊥ = omega arith in z) (λ e. let z : ⊥ = omega arith in z) o.0.0
