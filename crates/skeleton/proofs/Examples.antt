-- The definitions, run on document 01's own figures, and with atoms. Here stands what rests on `atoms`; the rest is in `specs.Examples`. Assumes nothing.
use Rattle.std.specs.Prelude.{◌≡◌, refl, ℕ, zero, suc}
use Rattle.std.proofs.Math.Logic.{Dec.not as dec_not}
use mathlib.Core.List.{List, [], ◌∷◌, flatten}
use Rattle.std.proofs.Math.Decide.{ℕ_discrete, dec_lt}
use Rattle.laws.specs.document.Order.{dec≽, insert, sort}
use Rattle.digit_code.specs.document.Code.{edges_from, decode}
use Rattle.skeleton.specs.document.Skeleton.{arcs, neighbours, children}
use Rattle.skeleton.specs.document.Label.{joinₗ, codeₗ, rootedₗ, digits, labels}
use Rattle.skeleton.specs.document.Atom.{Atom, C, O}
use Rattle.skeleton.specs.document.AtomMarks.{atoms}

-- methanol, its carbon 1 and its oxygen 2: the code at the oxygen, 10 with the letters OC, is the larger
methanol : ℕ → Atom
methanol zero = C
methanol (suc zero) = C
methanol (suc (suc v)) = O

at_oxygen : rootedₗ atoms methanol 2 (1 ∷ 2 ∷ []) 2 ≡ 5 ∷ 0 ∷ []
unfolding methanol rootedₗ codeₗ joinₗ children neighbours arcs sort insert dec≽ flatten ℕ_discrete dec_lt dec_not
at_oxygen = refl

at-carbon : rootedₗ atoms methanol 2 (1 ∷ 2 ∷ []) 1 ≡ 3 ∷ 2 ∷ []
unfolding methanol rootedₗ codeₗ joinₗ children neighbours arcs sort insert dec≽ flatten ℕ_discrete dec_lt dec_not
at-carbon = refl

-- 210110 with the letters CNCCCC: the branch with the nitrogen goes before the longer one, so the code's digits are not the code of the bare skeleton
abbrev branched : List ℕ
branched = 6 ∷ 4 ∷ 0 ∷ 3 ∷ 3 ∷ 0 ∷ []

nitrogen_first : rootedₗ atoms (labels atoms branched) 6 (decode (digits atoms branched)) 1 ≡ branched
unfolding rootedₗ codeₗ joinₗ digits labels decode edges_from children neighbours arcs sort insert dec≽ flatten ℕ_discrete dec_lt dec_not
nitrogen_first = refl
