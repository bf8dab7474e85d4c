-- A number that is spelt from its last digit on. Assumes nothing.
use mathlib.Core.Path.{◌≡◌, sym, ap, ◌∙◌}
use mathlib.Core.List.{List, [], ◌∷◌, ◌++◌}
use Prim.Native.Nat.{ℕ, suc, ◌+◌, ◌-◌, ◌/◌, ◌%◌, ◌^◌, ◌≤◌, ◌<◌}
use native.Mathlib.Omega.{arith}
use lib.ListN.{length, drop, set, length-set, length-append, length-drop, drop_of_length-le}
use lib.Seq.{append_snoc, drop-cons, get_or-set_same, drop-set-lt}
use Rattle.listing_text.specs.document.Listing.{numeral}
use Rattle.listing_text.specs.Numerals.{numeral-short, numeral_longer, numeral_some, numeral_length}
use Rattle.listing_text.specs.Steps.{Spelt}

-- what stands from `at` on is n's last digits and `last`; the digits before them are those of `rest`
pub record Spelling (n last : ℕ) (out : List ℕ) (at rest : ℕ) : Type 0 where
  pub long : length out ≡ 32
  pub few : length (numeral n) ≤ 20
  pub within : at ≤ 32
  pub ends : numeral rest ++ drop at out ≡ numeral n ++ (last ∷ [])

drop_set : (l : List ℕ) (i v : ℕ) → i < length l → drop i (set l i v) ≡ v ∷ drop (suc i) l
drop_set l i v h =
    rw (drop-cons (set l i v) i 0 (rw length-set h), get_or-set_same l i v 0 h, drop-set-lt (suc i) l i v (omega arith))

pub begun : (n last : ℕ) (out : List ℕ) → n < 2 ^ 64 → length out ≡ 32 → Spelling n last (set out 31 last) 31 n
begun n last out h e =
    record {
      long = rw length-set e;
      few = numeral_length 19 n (omega arith);
      within = omega arith;
      ends = ap (λ (l : List ℕ). numeral n ++ l) (drop_set out 31 last (omega arith) ∙ ap (λ (l : List ℕ). last ∷ l) (drop_of_length-le out {i = 32} (omega arith)));
    }

module _ {n last : ℕ} {out : List ℕ} {at rest : ℕ} (s : Spelling n last out at rest) where
  pub room : 1 ≤ at
  room =
      let e = simp (length-append, length-drop) at (ap length s.ends) in
      omega (arith, s.long, s.few, numeral_some rest)

  before : (v : ℕ) → drop (at - 1) (set out (at - 1) v) ≡ v ∷ drop at out
  before v =
      let r = room in
      let i : suc (at - 1) ≡ at = omega arith in
      drop_set out (at - 1) v (omega (arith, s.long, s.within)) ∙ ap (λ (j : ℕ). v ∷ drop j out) i

  pub digit-more : 10 ≤ rest → Spelling n last (set out (at - 1) (48 + rest % 10)) (at - 1) (rest / 10)
  digit-more h =
      record {
        long = rw length-set s.long;
        few = s.few;
        within = omega (arith, s.within);
        ends =
            ap (λ (l : List ℕ). numeral (rest / 10) ++ l) (before (48 + rest % 10))
            ∙ sym (append_snoc (numeral (rest / 10)) (48 + rest % 10) (drop at out))
            ∙ ap (λ (l : List ℕ). l ++ drop at out) (sym (numeral_longer rest h))
            ∙ s.ends;
      }

  pub spelt : rest < 10 → Spelt (numeral n ++ (last ∷ [])) (set out (at - 1) (48 + rest)) (at - 1)
  spelt h =
      record {
        long = rw length-set s.long;
        within = omega (arith, s.within);
        ends = before (48 + rest) ∙ ap (λ (l : List ℕ). l ++ drop at out) (sym (numeral-short rest h)) ∙ s.ends;
      }
