-- Document 02, wish 7: "an all-carbon skeleton keeps its old codes". Where every vertex is carbon a mark is three times the digit, and the rooted code over atoms has the
-- digits of the plain one. Here stands what rests on `atoms`; the rest is in `specs.Carbon`. Assumes nothing.
use Rattle.std.specs.Prelude.{◌≡◌, refl, List, [], ◌∷◌, map, ℕ, zero, suc, ◌-◌, ◌*◌, ◌%◌, get_or}
use Rattle.std.proofs.Common.{ap, ◌∙◌, arith}
use Rattle.skeleton.specs.document.Skeleton.{rooted}
use Rattle.skeleton.specs.document.Label.{rootedₗ, digits, labels}
use Rattle.skeleton.specs.Base.{base, rooted-base, digits-base}
use Rattle.skeleton.specs.document.Atom.{C, named}
use Rattle.skeleton.specs.document.AtomMarks.{atoms}
use Rattle.skeleton.specs.Rewritten.{Rewritten, rooted_rewritten, digits_rewritten}
use Rattle.skeleton.specs.Carbon.{carbon, carbon_mark}

pub carbon-marks : Rewritten base atoms (λ v. tt) carbon carbon_mark
carbon-marks = record { rising = λ a b h. omega arith; marks = λ n v. omega arith; arity = λ m. omega arith }

pub carbon-digits : (c : List ℕ) → digits atoms (map carbon_mark c) ≡ c
carbon-digits c = digits_rewritten base atoms carbon-marks c ∙ digits-base c

-- the code of an all-carbon skeleton is that of document 01, by marks
pub all-carbon : (N : ℕ) (E : List ℕ) (r : ℕ) → rootedₗ atoms carbon N E r ≡ map carbon_mark (rooted N E r)
all-carbon N E r = rooted_rewritten base atoms carbon-marks N E r ∙ ap (map carbon_mark) (rooted-base (λ v. tt) N E r)

-- and its digits are that code
pub all-carbon-digits : (N : ℕ) (E : List ℕ) (r : ℕ) → digits atoms (rootedₗ atoms carbon N E r) ≡ rooted N E r
all-carbon-digits N E r = ap (digits atoms) (all-carbon N E r) ∙ carbon-digits (rooted N E r)

-- the marks of carbons tell carbon
pub carbon-labels : (c : List ℕ) (v : ℕ) → labels atoms (map carbon_mark c) v ≡ C
unfolding labels
carbon-labels c v = at c (v - 1)
  where
    at : (c : List ℕ) (i : ℕ) → named (get_or (map carbon_mark c) i 0 % 3) ≡ C
    at [] i = refl
    at (k ∷ c) zero = let e : (3 * k) % 3 ≡ 0 = omega arith in ap named e
    at (k ∷ c) (suc i) = at c i
