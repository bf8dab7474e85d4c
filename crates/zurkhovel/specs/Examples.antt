-- The definitions of `Demand`, run on document 01's input and output of "The listing". Assumes nothing.
use Rattle.std.specs.Prelude.{◌≡◌, refl, List, [], ◌∷◌, ◌++◌, ℕ, replicate}
use Rattle.std.proofs.Math.Decide.{ℕ_discrete}
use Rattle.texts.specs.document.Demand.{zeros, Counted, handed_out, lines_in}
use Rattle.zurkhovel.specs.document.Demand.{plain_kind}

-- `8 32100100`, `6 220010`, `6 311000`, `6 2200,10`, `3 20`, each with its line feed, and then `1 0` without one
abbrev listed : List ℕ
listed =
    56 ∷ 32 ∷ 51 ∷ 50 ∷ 49 ∷ 48 ∷ 48 ∷ 49 ∷ 48 ∷ 48 ∷ 10
    ∷ 54 ∷ 32 ∷ 50 ∷ 50 ∷ 48 ∷ 48 ∷ 49 ∷ 48 ∷ 10
    ∷ 54 ∷ 32 ∷ 51 ∷ 49 ∷ 49 ∷ 48 ∷ 48 ∷ 48 ∷ 10
    ∷ 54 ∷ 32 ∷ 50 ∷ 50 ∷ 48 ∷ 48 ∷ 44 ∷ 49 ∷ 48 ∷ 10
    ∷ 51 ∷ 32 ∷ 50 ∷ 48 ∷ 10
    ∷ 49 ∷ 32 ∷ 48 ∷ []

six_lines : lines_in listed ≡ 6
unfolding lines_in ℕ_discrete
six_lines = refl

-- their numbers, the places, and the bytes that were lent full of 7
abbrev numbers : List ℕ
numbers = 0 ∷ 0 ∷ 14 ∷ 2 ∷ 5 ∷ 1 ∷ []

abbrev places : List ℕ
places = 8 ∷ 6 ∷ 0 ∷ 0 ∷ 0 ∷ 0 ∷ []

abbrev bytes : List ℕ
bytes = (3 ∷ 2 ∷ 1 ∷ 0 ∷ 0 ∷ 1 ∷ 0 ∷ 0 ∷ replicate 56 7) ++ (2 ∷ 2 ∷ 0 ∷ 0 ∷ 1 ∷ 0 ∷ replicate 314 7)

two_records : handed_out (plain_kind 1) numbers places (bytes ∷ []) ≡ (3 ∷ 2 ∷ 1 ∷ 0 ∷ 0 ∷ 1 ∷ 0 ∷ 0 ∷ []) ∷ (2 ∷ 2 ∷ 0 ∷ 0 ∷ 1 ∷ 0 ∷ []) ∷ []
unfolding handed_out
two_records = refl

-- `read 2 refused 4`
counted_so : Counted numbers 2 4
unfolding zeros
counted_so = record { records = refl; others = refl }
