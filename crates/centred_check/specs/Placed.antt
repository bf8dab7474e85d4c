-- The trees that marks make, each by the place of its first mark, on a stack that lies at the end of a list; then the children of a mark
-- compared one with the next, and the tallest of them found, from the last on. Assumes nothing.
use Rattle.std.specs.Prelude.{◌≡◌, refl, Option, MatchOption, ℕ, zero, suc, max, ◌+◌, ◌-◌, ◌≤◌, ◌<◌, length, set, take, drop}
use Rattle.std.proofs.Common.{sym, ◌∙◌, subst, subst₂, add-one, length-drop, length-set, drop-cons, drop-drop, get_or-set_same, get_or-set_other, get_or-take, length-take-le}
use Rattle.std.proofs.Math.Path.{ap}
use mathlib.Core.List.{List, [], ◌∷◌, flatten, head-eq_of_cons-eq}
use Rattle.std.proofs.Math.Decide.{ℕ_discrete}
use native.Mathlib.Omega.{arith}
use Rattle.std.proofs.Math.ListN.{get_or}
use Rattle.std.proofs.Math.Seq.{drop-length}
use Rattle.laws.specs.document.Order.{◌≽◌}
use Rattle.laws.specs.Falling.{Falling}
use Rattle.laws.specs.Sorting.{falling_iff}
use Rattle.laws.specs.Part.{part, part_none, part_cons}
use Rattle.limits.specs.document.Limits.{size}
use Rattle.digit_code.specs.document.Code.{codes}
use Rattle.centred_check.specs.Middle.{top}
use Rattle.centred_check.specs.Skip.{codes_few, codes_at, Skips, skips_length, skips_left, one-after, one-part}
use Rattle.centred_check.specs.Stack.{Topped, top-last}

-- the trees from mark i on: where each begins, and behind the last the code's length
pub record Placed (arity : ℕ → ℕ) (c st : List ℕ) (i at : ℕ) : Type 0 where
  pub long : length st ≡ suc size
  pub inside : at ≤ size
  pub count : length (codes arity (drop i c)) ≡ size - at
  pub starts : (m : ℕ) → m ≤ size - at → Skips arity c i m (get_or st (at + m) 0)

pub placed_start : (arity : ℕ → ℕ) (c st : List ℕ) → length st ≡ suc size → Placed arity c (set st size (length c)) (length c) size
unfolding codes
placed_start arity c st l = record {
  long = length-set st size (length c) ∙ l;
  inside = omega arith;
  count = ap (λ (d : List ℕ). length (codes arity d)) (drop-length c);
  starts = λ m h.
      let n : 0 ≡ m = omega arith in
      subst (λ (a : ℕ). Skips arity c (length c) a (get_or (set st size (length c)) (size + a) 0)) n
      (rw (get_or-set_same st size (length c) 0 (omega arith)) (record { from = omega arith; within = omega arith; rest = refl }));
}

module _ {arity : ℕ → ℕ} {c st : List ℕ} {i at : ℕ} (l : Placed arity c st i at) where
  -- the first begins at i
  pub placed_first : get_or st at 0 ≡ i
  unfolding flatten
  placed_first =
      let n : at ≡ at + 0 = omega arith in
      ap (λ (a : ℕ). get_or st a 0) n ∙ skips_length (l.starts 0 (omega arith)) ∙ (let q : i + 0 ≡ i = omega arith in q)

  module _ (m : ℕ) (h : m < size - at) where
    tree_inside : get_or st (at + m) 0 < length c
    tree_inside =
        let s = l.starts m (omega arith) in
        omega (arith, ap length s.rest ∙ length-drop m (codes arity (drop i c)), l.count, codes_few arity (drop (get_or st (at + m) 0) c), length-drop (get_or st (at + m) 0) c)

    tree_at : Skips arity c (get_or st (at + m) 0) 1 (get_or st (at + suc m) 0)
    tree_at =
        let n : suc m - m ≡ 1 = omega arith in
        subst (λ (a : ℕ). Skips arity c (get_or st (at + m) 0) a (get_or st (at + suc m) 0)) n (skips_left (l.starts m (omega arith)) (omega arith) (l.starts (suc m) (omega arith)))

    tree_part : get_or (codes arity (drop i c)) m [] ≡ part (get_or st (at + m) 0) (get_or st (at + suc m) 0) c
    tree_part =
        head-eq_of_cons-eq (sym (drop-cons (codes arity (drop i c)) m [] (omega (arith, l.count))) ∙ sym (l.starts m (omega arith)).rest ∙ one-part tree_at tree_inside)

    tree_some : get_or st (at + m) 0 < get_or st (at + suc m) 0
    tree_some = one-after tree_at tree_inside

  -- by the places of the stack
  module _ (j : ℕ) (g : at ≤ j) (h : j < size) where
    abbrev m : ℕ
    m = j - at

    here : at + m ≡ j
    here = omega arith

    next : at + suc m ≡ j + 1
    next = omega arith

    place_some : get_or st j 0 < get_or st (j + 1) 0
    place_some = subst₂ (λ (a b : ℕ). get_or st a 0 < get_or st b 0) here next (tree_some m (omega arith))

    place_within : get_or st (j + 1) 0 ≤ length c
    place_within = subst (λ (a : ℕ). get_or st a 0 ≤ length c) next (l.starts (suc m) (omega arith)).within

    place-part : get_or (codes arity (drop i c)) (j - at) [] ≡ part (get_or st j 0) (get_or st (j + 1) 0) c
    place-part = subst₂ (λ (a b : ℕ). get_or (codes arity (drop i c)) m [] ≡ part (get_or st a 0) (get_or st b 0) c) here next (tree_part m (omega arith))

  -- one mark more, whose children are the first of them
  module _ (some : 0 < i) (within : i ≤ length c) (room : 1 ≤ at) (fit : at + arity (get_or c (i - 1) 0) ≤ size) where
    abbrev k : ℕ
    k = arity (get_or c (i - 1) 0)

    abbrev top-place : ℕ
    top-place = at + k - 1

    opened : codes arity (drop (i - 1) c) ≡ (get_or c (i - 1) 0 ∷ flatten (take k (codes arity (drop i c)))) ∷ drop k (codes arity (drop i c))
    opened =
        let n : suc (i - 1) ≡ i = omega arith in
        codes_at arity c (i - 1) (omega arith) ∙ ap (λ (b : ℕ). (get_or c (i - 1) 0 ∷ flatten (take k (codes arity (drop b c)))) ∷ drop k (codes arity (drop b c))) n

    own : Skips arity c (i - 1) 0 (get_or (set st top-place (i - 1)) (top-place + 0) 0)
    own =
        let n : top-place + 0 ≡ top-place = omega arith in
        let e : get_or (set st top-place (i - 1)) (top-place + 0) 0 ≡ i - 1 = ap (λ (b : ℕ). get_or (set st top-place (i - 1)) b 0) n ∙ get_or-set_same st top-place (i - 1) 0 (omega (arith, l.long)) in
        subst (λ (b : ℕ). Skips arity c (i - 1) 0 b) (sym e) (record { from = omega arith; within = omega arith; rest = refl })

    old : (m : ℕ) → suc m ≤ size - top-place → Skips arity c (i - 1) (suc m) (get_or (set st top-place (i - 1)) (top-place + suc m) 0)
    old m h =
        let n : top-place + suc m ≡ at + (k + m) = omega arith in
        let d : (top-place + suc m ≡ top-place → ⊥) = λ q. (let z : ⊥ = omega arith in z) in
        let e : get_or (set st top-place (i - 1)) (top-place + suc m) 0 ≡ get_or st (at + (k + m)) 0 = get_or-set_other st top-place (top-place + suc m) (i - 1) 0 d ∙ ap (λ (b : ℕ). get_or st b 0) n in
        let s = l.starts (k + m) (omega arith) in
        subst (λ (b : ℕ). Skips arity c (i - 1) (suc m) b) (sym e) (record {
          from = omega arith;
          within = s.within;
          rest = s.rest ∙ sym (drop-drop m k (codes arity (drop i c))) ∙ sym (ap (drop (suc m)) opened);
        })

    begin : (m : ℕ) → m ≤ size - top-place → Skips arity c (i - 1) m (get_or (set st top-place (i - 1)) (top-place + m) 0)
    begin zero h = own
    begin (suc m) h = old m h

    pub placed_next : Placed arity c (set st (at + arity (get_or c (i - 1) 0) - 1) (i - 1)) (i - 1) (at + arity (get_or c (i - 1) 0) - 1)
    placed_next = record {
      long = length-set st top-place (i - 1) ∙ l.long;
      inside = omega arith;
      count = ap length opened ∙ ap suc (length-drop k (codes arity (drop i c)) ∙ ap (λ (b : ℕ). b - k) l.count) ∙ (let q : suc (size - at - k) ≡ size - top-place = omega arith in q);
      starts = begin;
    }

-- the trees from `at` to `end` are children of one mark, and r is how tall it is then
pub record Joined (arity : ℕ → ℕ) (c hs : List ℕ) (i at end r : ℕ) : Type 0 where
  pub tall : r ≡ suc (top (part at end hs))
  pub fall : Falling (take (end - at) (codes arity (drop i c)))

-- how tall it is, or none where one of them is larger than the one before
abbrev pub Joins : (ℕ → ℕ) → List ℕ → List ℕ → ℕ → ℕ → ℕ → Option ℕ → Type 0
Joins arity c hs i at end o = MatchOption o (Falling (take (end - at) (codes arity (drop i c))) → ⊥) (λ r. Joined arity c hs i at end r)

-- from place j on
pub record Joining (arity : ℕ → ℕ) (c hs : List ℕ) (i at end j best : ℕ) : Type 0 where
  pub topped : Topped hs at end j best
  pub some : j < end
  pub falls : (m : ℕ) → j ≤ m → m + 1 < end → get_or (codes arity (drop i c)) (m - at) [] ≽ get_or (codes arity (drop i c)) (m + 1 - at) []

pub join-none : (arity : ℕ → ℕ) (c hs : List ℕ) (i at : ℕ) → Joined arity c hs i at at 1
unfolding top
join-none arity c hs i at =
    let n : at - at ≡ 0 = omega arith in
    record { tall = ap (λ (l : List ℕ). suc (top l)) (sym (part_none at hs)); fall = rw n tt }

pub join_start : {arity : ℕ → ℕ} {c hs : List ℕ} {i at end : ℕ} → at < end → end ≤ length hs → Joining arity c hs i at end (end - 1) (get_or hs (end - 1) 0)
unfolding top
join_start {arity} {c} {hs} {i} {at} {end} h k =
    let n : suc (end - 1) ≡ end = omega arith in
    let e : top (part (end - 1) end hs) ≡ max (get_or hs (end - 1) 0) 0 =
    ap top (part_cons (end - 1) end hs 0 (omega arith) (omega arith)) ∙ ap (λ (a : ℕ). max (get_or hs (end - 1) 0) (top (part a end hs))) n ∙ ap (λ (l : List ℕ). max (get_or hs (end - 1) 0) (top l)) (part_none end hs) in
    record {
      topped = record { after = omega arith; within = omega arith; best_is = omega arith };
      some = omega arith;
      falls = λ m g o. let z : ⊥ = omega arith in absurd z;
    }

module _ {arity : ℕ → ℕ} {c st hs : List ℕ} {i at end j best : ℕ} (l : Placed arity c st i at) (t : Joining arity c hs i at end j best) (fit : end ≤ size) where
  children-count : length (take (end - at) (codes arity (drop i c))) ≡ end - at
  children-count = length-take-le (end - at) (codes arity (drop i c)) (omega (arith, l.count))

  -- the children fall exactly when each stands at or after the next
  falling_places : Falling (take (end - at) (codes arity (drop i c))) → (m : ℕ) → suc m < end - at → get_or (codes arity (drop i c)) m [] ≽ get_or (codes arity (drop i c)) (suc m) []
  falling_places f m h =
      let X : List (List ℕ) = codes arity (drop i c) in
      subst₂ (λ (a b : List ℕ). a ≽ b) (get_or-take (end - at) X m [] (omega arith)) (get_or-take (end - at) X (suc m) [] h)
      ((falling_iff (take (end - at) X)).0 f m (omega (arith, children-count)))

  pub join_last : j ≤ at → Joined arity c hs i at end (best + 1)
  join_last h = record {
    tall = add-one best ∙ ap suc (top-last t.topped h);
    fall = (falling_iff (take (end - at) (codes arity (drop i c)))).1 each;
  }
    where
      each : (m : ℕ) → suc m < length (take (end - at) (codes arity (drop i c))) → get_or (take (end - at) (codes arity (drop i c))) m [] ≽ get_or (take (end - at) (codes arity (drop i c))) (suc m) []
      each m g =
          let X : List (List ℕ) = codes arity (drop i c) in
          let o : suc m < end - at = omega (arith, children-count) in
          let p : at + m - at ≡ m = omega arith in
          let q : at + m + 1 - at ≡ suc m = omega arith in
          subst₂ (λ (a b : List ℕ). a ≽ b) (sym (get_or-take (end - at) X m [] (omega arith))) (sym (get_or-take (end - at) X (suc m) [] o))
          (subst₂ (λ (a b : ℕ). get_or X a [] ≽ get_or X b []) p q (t.falls (at + m) (omega arith) (omega arith)))

  module _ (h : at < j) where
    before : j - 1 + 1 ≡ j
    before = omega arith

    first : get_or (codes arity (drop i c)) (j - 1 - at) [] ≡ part (get_or st (j - 1) 0) (get_or st j 0) c
    first = let s = t.some in subst (λ (a : ℕ). get_or (codes arity (drop i c)) (j - 1 - at) [] ≡ part (get_or st (j - 1) 0) (get_or st a 0) c) before (place-part l (j - 1) (omega arith) (omega arith))

    second : get_or (codes arity (drop i c)) (j - at) [] ≡ part (get_or st j 0) (get_or st (j + 1) 0) c
    second = let s = t.some in place-part l j (omega arith) (omega arith)

    -- both have marks, and lie within the code
    pub join_first : get_or st (j - 1) 0 < get_or st j 0
    join_first = let s = t.some in subst (λ (a : ℕ). get_or st (j - 1) 0 < get_or st a 0) before (place_some l (j - 1) (omega arith) (omega arith))

    pub join-second : get_or st j 0 < get_or st (j + 1) 0
    join-second = let s = t.some in place_some l j (omega arith) (omega arith)

    pub join_within : get_or st (j + 1) 0 ≤ length c
    join_within = let s = t.some in place_within l j (omega arith) (omega arith)

    -- the one before stands at or after it
    pub join-next : {next : ℕ} → Topped hs at end (j - 1) next → part (get_or st (j - 1) 0) (get_or st j 0) c ≽ part (get_or st j 0) (get_or st (j + 1) 0) c → Joining arity c hs i at end (j - 1) next
    join-next o g = record { topped = o; some = (let s = t.some in omega arith); falls = λ m a b. look m a b (ℕ_discrete (j - 1) m) }
      where
        look : (m : ℕ) → j - 1 ≤ m → m + 1 < end → Dec (j - 1 ≡ m) → get_or (codes arity (drop i c)) (m - at) [] ≽ get_or (codes arity (drop i c)) (m + 1 - at) []
        look m a b (yes e) =
            let q : j - at ≡ m + 1 - at = omega arith in
            let p : j - 1 - at ≡ m - at = omega arith in
            subst₂ (λ (a b : ℕ). get_or (codes arity (drop i c)) a [] ≽ get_or (codes arity (drop i c)) b []) p q (subst₂ (λ (a b : List ℕ). a ≽ b) (sym first) (sym second) g)
        look m a b (no n) = t.falls m (omega arith) b

    -- or it does not
    pub join_stop : (part (get_or st (j - 1) 0) (get_or st j 0) c ≽ part (get_or st j 0) (get_or st (j + 1) 0) c → ⊥) → Falling (take (end - at) (codes arity (drop i c))) → ⊥
    join_stop n f =
        let s = t.some in
        let q : suc (j - 1 - at) ≡ j - at = omega arith in
        n (subst₂ (λ (a b : List ℕ). a ≽ b) first (ap (λ (a : ℕ). get_or (codes arity (drop i c)) a []) q ∙ second) (falling_places f (j - 1 - at) (omega arith)))
