-- The heights of the trees that digits make, read from the right on a stack that lies at the end of a list. Assumes nothing.
use Rattle.std.specs.Prelude.{◌≡◌, refl, get_or, take}
use Rattle.std.proofs.Math.Path.{sym, ap, ap₂}
use Rattle.std.proofs.Common.{◌∙◌, length-drop, drop-drop, get_or-set_same}
use mathlib.Core.List.{List, [], ◌∷◌}
use Prim.Native.Nat.{ℕ, zero, suc, max, ◌+◌, ◌-◌, ◌≤◌, ◌<◌}
use native.Mathlib.Omega.{arith}
use Rattle.std.proofs.Math.ListN.{length, set, drop, length-set}
use Rattle.std.proofs.lemmas.List.{length-map}
use Rattle.std.proofs.Math.Seq.{drop-cons, drop-length, drop-set-lt}
use Rattle.laws.specs.Part.{part, part_cons}
use Rattle.limits.specs.document.Limits.{size}
use Rattle.digit_code.specs.document.Code.{codes}
use Rattle.digit_code.specs.Digits.{digits}
use Rattle.skeleton.specs.document.Label.{Marks}
use Rattle.centred_check.specs.Middle.{top, heights, tops}
use Rattle.centred_check.specs.Skip.{codes_few}

pub heights_length : (arity : ℕ → ℕ) (ms : List ℕ) → length (heights (digits arity ms)) ≡ length (codes arity ms)
unfolding heights codes
heights_length arity [] = refl
heights_length arity (m ∷ ms) =
    ap suc (length-drop (arity m) (heights (digits arity ms)) ∙ ap (λ (n : ℕ). n - arity m) (heights_length arity ms) ∙ sym (length-drop (arity m) (codes arity ms)))

top_take : (k : ℕ) (l : List ℕ) → top (take k l) ≤ top l
unfolding top
top_take zero l = omega arith
top_take (suc k) [] = omega arith
top_take (suc k) (h ∷ l) = omega (arith, top_take k l)

top_drop : (k : ℕ) (l : List ℕ) → top (drop k l) ≤ top l
unfolding top
top_drop zero l = omega arith
top_drop (suc k) [] = omega arith
top_drop (suc k) (h ∷ l) = omega (arith, top_drop k l)

-- no tree is taller than its digits are many
heights-low : (ds : List ℕ) → top (heights ds) ≤ length ds
unfolding heights top
heights-low [] = omega arith
heights-low (k ∷ ds) = omega (arith, top_take k (heights ds), top_drop k (heights ds), heights-low ds)

-- the greatest of a part, from its end on
pub record Topped (hs : List ℕ) (from to j best : ℕ) : Type 0 where
  pub after : from ≤ j
  pub within : j ≤ to
  pub best_is : best ≡ top (part j to hs)

module _ {hs : List ℕ} {from to j best : ℕ} (t : Topped hs from to j best) (long : to ≤ length hs) (l : from < j) where
  greatest : top (part (j - 1) to hs) ≡ max (get_or hs (j - 1) 0) best
  unfolding top
  greatest =
      let n : suc (j - 1) ≡ j = omega arith in
      let w : j ≤ to = t.within in
      ap top (part_cons (j - 1) to hs 0 (omega arith) (omega arith))
      ∙ ap (λ (a : ℕ). max (get_or hs (j - 1) 0) (top (part a to hs))) n
      ∙ ap (max (get_or hs (j - 1) 0)) (sym t.best_is)

  pub top-more : best < get_or hs (j - 1) 0 → Topped hs from to (j - 1) (get_or hs (j - 1) 0)
  top-more g = record { after = omega arith; within = omega (arith, t.within); best_is = omega (arith, greatest) }

  pub top-same : get_or hs (j - 1) 0 ≤ best → Topped hs from to (j - 1) best
  top-same g = record { after = omega arith; within = omega (arith, t.within); best_is = omega (arith, greatest) }

pub top-last : {hs : List ℕ} {from to j best : ℕ} → Topped hs from to j best → j ≤ from → best ≡ top (part from to hs)
top-last {hs} {from} {to} {j} t h = let n : j ≡ from = omega (arith, t.after) in t.best_is ∙ ap (λ (a : ℕ). top (part a to hs)) n

-- from mark i on, the heights stand at the end of hs
pub record Stacked (arity : ℕ → ℕ) (c hs : List ℕ) (i at : ℕ) : Type 0 where
  pub some : 1 ≤ i
  pub within : i ≤ length c
  pub long : length hs ≡ size
  pub inside : at ≤ size
  pub stands : drop at hs ≡ heights (digits arity (drop i c))

pub stack_start : {arity : ℕ → ℕ} {c hs : List ℕ} → 1 ≤ length c → length hs ≡ size → Stacked arity c hs (length c) size
unfolding heights
stack_start {arity} {c} {hs} h l =
    let e : drop size hs ≡ [] = ap (λ (n : ℕ). drop n hs) (sym l) ∙ drop-length hs in
    record { some = h; within = omega arith; long = l; inside = omega arith; stands = e ∙ sym (ap (λ (d : List ℕ). heights (digits arity d)) (drop-length c)) }

-- no height is above the code's length
pub stack-low : {arity : ℕ → ℕ} {c hs : List ℕ} {i at : ℕ} → Stacked arity c hs i at → (end : ℕ) → top (part at end hs) ≤ length c
stack-low {arity} {c} {hs} {i} {at} s end =
    omega (arith, ap (λ (l : List ℕ). top (take (end - at) l)) s.stands, top_take (end - at) (heights (digits arity (drop i c))), heights-low (digits arity (drop i c)), length-map (drop i c) arity, length-drop i c)

module _ {arity : ℕ → ℕ} {c hs : List ℕ} {i at : ℕ} (s : Stacked arity c hs i at) (few : length c ≤ size) (l : 1 < i) where
  abbrev k : ℕ
  k = arity (get_or c (i - 1) 0)

  back : suc (i - 1) ≡ i
  back = omega arith

  high : length (heights (digits arity (drop i c))) ≡ size - at
  high = ap length (sym s.stands) ∙ length-drop at hs ∙ ap (λ (n : ℕ). n - at) s.long

  count : length (codes arity (drop i c)) ≡ size - at
  count = sym (heights_length arity (drop i c)) ∙ high

  pub stack-room : 1 ≤ at
  stack-room = omega (arith, count, codes_few arity (drop i c), length-drop i c, s.within)

  module _ (fit : at + arity (get_or c (i - 1) 0) ≤ size) where
    children : part at (at + k) hs ≡ take k (heights (digits arity (drop i c)))
    children = let n : at + k - at ≡ k = omega arith in ap₂ (λ (a : ℕ) (b : List ℕ). take a b) n s.stands

    pub stack-next : {h : ℕ} → h ≡ suc (top (part at (at + k) hs)) → Stacked arity c (set hs (at + k - 1) h) (i - 1) (at + k - 1)
    unfolding heights
    stack-next {h} e =
        let a : ℕ = at + k - 1 in
        let n : suc a ≡ at + k = omega (arith, stack-room) in
        let g : a < length hs = omega (arith, s.long, fit, stack-room) in
        let new : List ℕ = set hs a h in
        let one : drop a new ≡ h ∷ drop (suc a) new = drop-cons new a 0 (omega (arith, length-set hs a h)) ∙ ap (λ (x : ℕ). x ∷ drop (suc a) new) (get_or-set_same hs a h 0 g) in
        let two : drop (suc a) new ≡ drop k (heights (digits arity (drop i c))) =
        drop-set-lt (suc a) hs a h (omega arith) ∙ ap (λ (x : ℕ). drop x hs) n ∙ sym (drop-drop k at hs) ∙ ap (drop k) s.stands in
        let three : heights (digits arity (drop (i - 1) c)) ≡ suc (top (take k (heights (digits arity (drop i c))))) ∷ drop k (heights (digits arity (drop i c))) =
        ap (λ (d : List ℕ). heights (digits arity d)) (drop-cons c (i - 1) 0 (omega (arith, s.within)))
        ∙ ap (λ (x : ℕ). suc (top (take k (heights (digits arity (drop x c))))) ∷ drop k (heights (digits arity (drop x c)))) back in
        record {
          some = omega arith;
          within = omega (arith, s.within);
          long = length-set hs a h ∙ s.long;
          inside = omega (arith, fit);
          stands = one ∙ ap₂ (λ (x : ℕ) (y : List ℕ). x ∷ y) (e ∙ ap (λ (n : List ℕ). suc (top n)) children) two ∙ sym three;
        }

-- the heights of the root's branches stand at the end of hs
pub record Branches (M : Marks) (c hs : List ℕ) (from : ℕ) : Type 0 where
  pub inside : from ≤ length hs
  pub stand : drop from hs ≡ tops M c

pub stack-last : (M : Marks) {c hs : List ℕ} {i at : ℕ} → Stacked M.arity c hs i at → i ≤ 1 → Branches M c hs at
stack-last M {c} {hs} {i} {at} s h =
    let n : i ≡ 1 = omega (arith, s.some) in
    record { inside = omega (arith, s.inside, s.long); stand = s.stands ∙ ap (λ (x : ℕ). heights (digits M.arity (drop x c))) n }
