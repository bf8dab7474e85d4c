-- The definitions, run on document 01's own figures. Assumes nothing.
use Rattle.std.specs.Prelude.{◌≡◌, refl, List, [], ◌∷◌, ◌++◌, ℕ}
use Rattle.std.proofs.Math.Decide.{dec_lt}
use Rattle.refusal.specs.document.Table.{gives, refuses}
use Rattle.texts.specs.document.Damage.{records, refusals}
use Rattle.listing_text.specs.document.Listing.{numeral_in, numeral, answer_line, answer_lines, totals, listed}

-- 65536
written-number : numeral 65536 ≡ 54 ∷ 53 ∷ 53 ∷ 51 ∷ 54 ∷ []
unfolding numeral numeral_in dec_lt
written-number = refl

-- the lines `8 32100100`, `6 220010`, `6 311000`, `6 2200,10`, `3 20`, and `1 0` without its line feed
document_01 :
    {A : Type 0} (c d : A)
    → listed (gives c ∷ gives d ∷ refuses 14 0 ∷ refuses 2 0 ∷ refuses 5 0 ∷ refuses 1 0 ∷ [])
    ≡ (49 ∷ 32 ∷ 48 ∷ 32 ∷ 48 ∷ 10 ∷ [])
    ++ (50 ∷ 32 ∷ 48 ∷ 32 ∷ 48 ∷ 10 ∷ [])
    ++ (51 ∷ 32 ∷ 49 ∷ 52 ∷ 32 ∷ 48 ∷ 10 ∷ [])
    ++ (52 ∷ 32 ∷ 50 ∷ 32 ∷ 48 ∷ 10 ∷ [])
    ++ (53 ∷ 32 ∷ 53 ∷ 32 ∷ 48 ∷ 10 ∷ [])
    ++ (54 ∷ 32 ∷ 49 ∷ 32 ∷ 48 ∷ 10 ∷ [])
    ++ (114 ∷ 101 ∷ 97 ∷ 100 ∷ 32 ∷ 50 ∷ 32 ∷ 114 ∷ 101 ∷ 102 ∷ 117 ∷ 115 ∷ 101 ∷ 100 ∷ 32 ∷ 52 ∷ 10 ∷ [])
unfolding listed answer_lines answer_line totals numeral numeral_in records refusals dec_lt
document_01 c d = refl

-- "Empty input gives only `read 0 refused 0`."
empty : listed {A = List ℕ} [] ≡ 114 ∷ 101 ∷ 97 ∷ 100 ∷ 32 ∷ 48 ∷ 32 ∷ 114 ∷ 101 ∷ 102 ∷ 117 ∷ 115 ∷ 101 ∷ 100 ∷ 32 ∷ 48 ∷ 10 ∷ []
unfolding listed answer_lines totals numeral numeral_in records refusals dec_lt
empty = refl
