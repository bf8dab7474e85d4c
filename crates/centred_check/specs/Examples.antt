-- The test on the digits, run on document 01's own figures. Assumes nothing.
use Rattle.std.specs.Prelude.{◌≡◌, refl}
use Rattle.std.proofs.Common.{inl, ⊎_elim, arith}
use mathlib.Core.List.{[], ◌∷◌, flatten}
use Rattle.std.proofs.Math.Decide.{dec_lt, ℕ_discrete}
use Rattle.laws.specs.document.Order.{dec≽, insert}
use Rattle.digit_code.specs.document.Code.{codes}
use Rattle.skeleton.specs.Base.{base}
use Rattle.centred_check.specs.Middle.{top, peak, second, heights, tops, branch, rest, turned, other, Middle}

-- 2-methylpentane, rooted at its centre: two branches are equally tall
even : Middle base (2 ∷ 2 ∷ 0 ∷ 0 ∷ 1 ∷ 0 ∷ [])
unfolding heights top second dec_lt
even = inl refl

-- 3-methylhexane: one branch is taller by one, and the code at its root is the smaller one
taller : tops base (3 ∷ 1 ∷ 1 ∷ 0 ∷ 1 ∷ 0 ∷ 0 ∷ []) ≡ 3 ∷ 2 ∷ 1 ∷ []
unfolding heights top
taller = refl

smaller : other base (3 ∷ 1 ∷ 1 ∷ 0 ∷ 1 ∷ 0 ∷ 0 ∷ []) ≡ 2 ∷ 2 ∷ 1 ∷ 0 ∷ 0 ∷ 1 ∷ 0 ∷ []
unfolding heights top peak dec_lt other branch turned rest codes flatten insert dec≽ ℕ_discrete
smaller = refl

-- 1200 is no centred code: the root has one branch of height 2
beside : Middle base (1 ∷ 2 ∷ 0 ∷ 0 ∷ []) → ⊥
unfolding heights top second dec_lt
beside m = ⊎_elim (λ e. let z : ⊥ = omega arith in z) (λ e. let z : ⊥ = omega (arith, e.0) in z) m
