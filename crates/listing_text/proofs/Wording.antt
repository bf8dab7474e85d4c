-- What is put, number by number, is the line for an answer, and the totals. Assumes nothing.
use mathlib.Core.Path.{◌≡◌, ◌∙◌}
use mathlib.Core.List.{List, [], ◌∷◌, ◌++◌, append_assoc}
use Prim.Native.Nat.{ℕ, ◌-◌}
use native.Mathlib.Omega.{arith}
use lib.ListN.{take, drop, length-drop}
use lib.Seq.{take_all}
use Rattle.refusal.specs.document.Table.{gives, refuses}
use Rattle.listing_text.specs.document.Listing.{numeral, space, feed, read_word, refused_word, answer_line, totals}
use Rattle.listing_text.specs.Numerals.{numeral-short}
use Rattle.listing_text.specs.Steps.{Spelt}

-- what was spelt, as the code hands it on
pub spelt_part : {c new : List ℕ} {at : ℕ} → Spelt c new at → take (32 - at) (drop at new) ≡ c
spelt_part {c} {new} {at} s = take_all (32 - at) (drop at new) (rw (length-drop, s.long) (omega arith)) ∙ s.ends

-- `0 0` and a line feed
pub record_line : (i n : ℕ) → (numeral i ++ space) ++ (48 ∷ 32 ∷ 48 ∷ 10 ∷ []) ≡ answer_line i (gives n)
unfolding answer_line
record_line i n = rw (numeral-short 0 (omega arith)) (simp append_assoc)

pub refusal_line : (i k p : ℕ) → ((numeral i ++ space) ++ (numeral k ++ space)) ++ (numeral p ++ feed) ≡ answer_line {A = ℕ} i (refuses k p)
unfolding answer_line
refusal_line i k p = simp append_assoc

pub totals-line : (R F : ℕ) → ((read_word ++ space) ++ (numeral R ++ space)) ++ (refused_word ++ space) ++ (numeral F ++ feed) ≡ totals R F
unfolding totals
totals-line R F = simp append_assoc
