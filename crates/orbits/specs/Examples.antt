-- The classes, run on figures. Assumes nothing.
use Rattle.std.specs.Prelude.{◌≡◌, refl}
use Rattle.std.proofs.Math.Logic.{Dec.and as dec_and}
use mathlib.Core.List.{[], ◌∷◌, flatten}
use Rattle.std.proofs.Math.Decide.{ℕ_discrete}
use Rattle.digit_code.specs.document.Code.{codes, edges_from, decode}
use Rattle.skeleton.specs.document.AtomMarks.{atoms}
use Rattle.numbering.specs.document.Decoded.{parent}
use Rattle.orbits.specs.Found.{greatest, class_of, same?}
use Rattle.orbits.specs.Classes.{testₗ, toldₗ, classesₗ, classes}

-- 2-methylpentane: the two ends at the fork are one class, the third end is another
fork : classes (2 ∷ 2 ∷ 0 ∷ 0 ∷ 1 ∷ 0 ∷ []) ≡ 1 ∷ 2 ∷ 3 ∷ 3 ∷ 4 ∷ 5 ∷ []
unfolding classesₗ toldₗ testₗ class_of greatest same? dec_and parent codes decode edges_from flatten ℕ_discrete
fork = refl

-- butane turns over: its middles are one class, and its ends
chain : classes (2 ∷ 1 ∷ 0 ∷ 0 ∷ []) ≡ 1 ∷ 1 ∷ 2 ∷ 2 ∷ []
unfolding classesₗ toldₗ testₗ class_of greatest same? dec_and parent codes decode edges_from flatten ℕ_discrete
chain = refl

-- neopentane: its four ends
ends : classes (4 ∷ 0 ∷ 0 ∷ 0 ∷ 0 ∷ []) ≡ 1 ∷ 2 ∷ 2 ∷ 2 ∷ 2 ∷ []
unfolding classesₗ toldₗ testₗ class_of greatest same? dec_and parent codes decode edges_from flatten ℕ_discrete
ends = refl

-- a chain of four with three more ends at either end, and it turns over: the other middle is vertex 6 and not 2
late : classes (2 ∷ 3 ∷ 0 ∷ 0 ∷ 0 ∷ 1 ∷ 3 ∷ 0 ∷ 0 ∷ 0 ∷ []) ≡ 1 ∷ 2 ∷ 3 ∷ 3 ∷ 3 ∷ 1 ∷ 2 ∷ 3 ∷ 3 ∷ 3 ∷ []
unfolding classesₗ toldₗ testₗ class_of greatest same? dec_and parent codes decode edges_from flatten ℕ_discrete
late = refl

-- butane's chain with a nitrogen for one of its ends, 2100 with the letters CCNC: no two are alike
turned_no_more : classesₗ atoms (2 ∷ 1 ∷ 0 ∷ 0 ∷ []) (6 ∷ 3 ∷ 1 ∷ 0 ∷ []) ≡ 1 ∷ 2 ∷ 3 ∷ 4 ∷ []
unfolding classesₗ toldₗ testₗ class_of greatest same? dec_and parent codes decode edges_from flatten ℕ_discrete
turned_no_more = refl

-- with both ends nitrogen it turns over again
both_ends : classesₗ atoms (2 ∷ 1 ∷ 0 ∷ 0 ∷ []) (6 ∷ 3 ∷ 1 ∷ 1 ∷ []) ≡ 1 ∷ 1 ∷ 2 ∷ 2 ∷ []
unfolding classesₗ toldₗ testₗ class_of greatest same? dec_and parent codes decode edges_from flatten ℕ_discrete
both_ends = refl
