-- The two tallest of the heights that stand at the end of a list, found from the end on; then what they say of the centre.
-- Assumes nothing.
use Rattle.std.specs.Prelude.{◌≡◌, refl, Bool, true, false, List, [], ◌∷◌, ℕ, suc, max, ◌+◌, ◌-◌, ◌≤◌, ◌<◌, length, get_or, drop}
use Rattle.std.proofs.Common.{sym, ◌∙◌, inl, inr, arith, drop-cons}
use Rattle.std.proofs.Math.Path.{ap}
use Rattle.std.proofs.Math.Logic.{⊎_elim, ite}
use Rattle.std.proofs.Math.Decide.{dec_lt}
use Rattle.std.proofs.Math.Seq.{drop-length}
use Rattle.laws.specs.document.Order.{◌≽◌}
use Rattle.laws.specs.Tells.{Tells, holds, denies}
use Rattle.digit_code.specs.document.Code.{codes}
use Rattle.skeleton.specs.document.Label.{Marks}
use Rattle.centred_check.specs.Middle.{top, peak, second, tops, branch, turned, other, Middle}
use Rattle.centred_check.specs.Stack.{heights_length, Branches}
use Rattle.centred_check.specs.Lift.{second_below, peak_here, peak_past, second_here, second_past}

-- from place j on: the tallest, the tallest of the others, and where the first tallest stands
pub record Race (hs : List ℕ) (from j first next at : ℕ) : Type 0 where
  pub after : from ≤ j
  pub within : j ≤ length hs
  pub top_is : first ≡ top (drop j hs)
  pub next_is : next ≡ second (drop j hs)
  pub at_is : at ≡ j + peak (drop j hs)

pub race_start : {hs : List ℕ} {from : ℕ} → from ≤ length hs → Race hs from (length hs) 0 0 (length hs)
unfolding top second peak
race_start {hs} h = record {
  after = h;
  within = omega arith;
  top_is = rw drop-length refl;
  next_is = rw drop-length refl;
  at_is = rw drop-length (omega arith);
}

module _ {hs : List ℕ} {from j first next at : ℕ} (r : Race hs from j first next at) (l : from < j) where
  abbrev h : ℕ
  h = get_or hs (j - 1) 0

  rest : drop (j - 1) hs ≡ h ∷ drop j hs
  rest =
      let n : suc (j - 1) ≡ j = omega arith in
      drop-cons hs (j - 1) 0 (omega (arith, r.within)) ∙ ap (λ (a : ℕ). h ∷ drop a hs) n

  top-rest : top (drop (j - 1) hs) ≡ max h first
  unfolding top
  top-rest = ap top rest ∙ ap (max h) (sym r.top_is)

  module _ (g : h < first) where
    under : h < top (drop j hs)
    under = omega (arith, r.top_is)

    next-rest : second (drop (j - 1) hs) ≡ max h next
    next-rest = ap second rest ∙ second_past h (drop j hs) under ∙ ap (max h) (sym r.next_is)

    at_rest : at ≡ j - 1 + peak (drop (j - 1) hs)
    at_rest = omega (arith, r.at_is, ap peak rest ∙ peak_past h (drop j hs) under)

    -- a lower one, taller than the others
    pub race_next : next < h → Race hs from (j - 1) first h at
    race_next k = record { after = omega arith; within = omega (arith, r.within); top_is = omega (arith, top-rest); next_is = omega (arith, next-rest); at_is = at_rest }

    -- or not
    pub race_low : h ≤ next → Race hs from (j - 1) first next at
    race_low k = record { after = omega arith; within = omega (arith, r.within); top_is = omega (arith, top-rest); next_is = omega (arith, next-rest); at_is = at_rest }

  -- a tallest
  pub race_first : first ≤ h → Race hs from (j - 1) h first (j - 1)
  race_first g =
      let o : top (drop j hs) ≤ h = omega (arith, r.top_is) in
      record {
        after = omega arith;
        within = omega (arith, r.within);
        top_is = omega (arith, top-rest);
        next_is = omega (arith, ap second rest ∙ second_here h (drop j hs) o, r.top_is);
        at_is = omega (arith, ap peak rest ∙ peak_here h (drop j hs) o);
      }

-- the tallest is not lower than the others
pub race_high : {hs : List ℕ} {from j first next at : ℕ} → Race hs from j first next at → next ≤ first
race_high {hs} {j = j} r = omega (arith, r.top_is, r.next_is, second_below (drop j hs))

peak_inside : (l : List ℕ) → 0 < length l → peak l < length l
unfolding peak top
peak_inside [] h = let z : ⊥ = omega arith in absurd z
peak_inside (x ∷ []) h = step (dec_lt x 0)
  where
    step : (d : Dec (x < 0)) → ite d 1 0 < 1
    step (yes g) = omega arith
    step (no g) = omega arith
peak_inside (x ∷ y ∷ l) h = step (dec_lt x (top (y ∷ l))) (peak_inside (y ∷ l) (omega arith))
  where
    step : (d : Dec (x < top (y ∷ l))) → peak (y ∷ l) < suc (length l) → ite d (suc (peak (y ∷ l))) 0 < suc (suc (length l))
    step (yes g) r = omega arith
    step (no g) r = omega arith

some_left : (l : List ℕ) → (top l ≡ second l → ⊥) → 0 < length l
unfolding top second
some_left [] n = absurd (n refl)
some_left (x ∷ l) n = omega arith

module _ {M : Marks} {c hs : List ℕ} {from j first next at : ℕ} (r : Race hs from j first next at) (l : j ≤ from) (is : Branches M c hs from) where
  here : drop j hs ≡ tops M c
  here = let n : j ≡ from = omega (arith, r.after) in ap (λ (a : ℕ). drop a hs) n ∙ is.stand

  first_is : first ≡ top (tops M c)
  first_is = r.top_is ∙ ap top here

  second_is : next ≡ second (tops M c)
  second_is = r.next_is ∙ ap second here

  -- equally tall
  pub race_even : first ≡ next → Tells (Middle M c) true
  race_even e = holds (inl (omega (arith, first_is, second_is)))

  -- too far apart
  pub race_apart : (first ≡ next → ⊥) → (first ≡ next + 1 → ⊥) → Tells (Middle M c) false
  race_apart n m = denies (λ x. ⊎_elim (λ e. n (omega (arith, first_is, second_is))) (λ e. m (omega (arith, e.0, first_is, second_is))) x)

  module _ (n : first ≡ next → ⊥) where
    pub race_place : at - from ≡ peak (tops M c)
    race_place = omega (arith, r.at_is, r.after, ap peak here)

    pub race_inside : at - from < length (codes M.arity (drop 1 c))
    race_inside =
        let s : 0 < length (tops M c) = some_left (tops M c) (λ e. n (omega (arith, first_is, second_is))) in
        omega (arith, race_place, peak_inside (tops M c) s, heights_length M.arity (drop 1 c))

    -- one taller: the codes decide
    pub race_close : {b : Bool} → first ≡ next + 1 → Tells (c ≽ turned M c (branch M c (at - from)) (branch M c (suc (at - from)))) b → Tells (Middle M c) b
    unfolding other
    race_close e f = decide (rw race_place at f)
      where
        decide : {b : Bool} → Tells (c ≽ turned M c (branch M c (peak (tops M c))) (branch M c (suc (peak (tops M c))))) b → Tells (Middle M c) b
        decide (holds g) = holds (inr (omega (arith, first_is, second_is), g))
        decide (denies k) = denies (λ x. ⊎_elim (λ q. n (omega (arith, first_is, second_is))) (λ q. k q.1) x)
