-- Finding the place of a part among the parts before it, from the first one on: what holds when some are passed (`Passed`), one more that
-- is not smaller, the first that is, and the end. `Looking` is the loop's, of all parts that may stand there. Assumes nothing.
use mathlib.Core.Path.{◌≡◌, refl, sym, ap, ap₂, subst, ◌∙◌}
use mathlib.Core.Logic.{◌⊎◌, inl, inr, ⊎_elim}
use mathlib.Core.List.{List, [], ◌∷◌, ◌++◌, append_assoc, append-nil, flatten, map, map-append}
use Prim.Native.Nat.{ℕ, ◌+◌, ◌≤◌, ◌<◌}
use native.Mathlib.Omega.{arith}
use lib.ListN.{length, get_or}
use Rattle.laws.specs.document.Order.{◌≽◌}
use Rattle.laws.specs.Part.{part}
use Rattle.digit_code.specs.document.Code.{sum}
use Rattle.digit_code.specs.Compare.{looked}
use Rattle.digit_code.specs.Counting.{sum-append}
use Rattle.numbering.specs.Order.{place}
use Rattle.numbering.specs.Sorted.{place_here, place_past}
use Rattle.rooted_coder.specs.Ordered.{Heads, Stand, Standing, Spot, met}
use Rattle.rooted_coder.proofs.Standing.{length_one, length_both, length_first, First, first_of, empty, middle-part}

met-more : (f : List ℕ → List ℕ) (c : List ℕ) (L : List (List ℕ)) (d : List ℕ) → met f c (L ++ (d ∷ [])) ≡ met f c L + looked (f d) (f c)
unfolding sum
met-more f c L d =
    let e : met f c (L ++ (d ∷ [])) ≡ met f c L + (looked (f d) (f c) + 0) = ap sum (map-append (λ d. looked (f d) (f c)) L (d ∷ [])) ∙ sum-append (map (λ d. looked (f d) (f c)) L) (looked (f d) (f c) ∷ []) in
    omega arith

-- Of the parts L, the first of which begins at f and the last of which ends at m, some are passed, up to x. c stands at or after none of
-- them, or its place is `at`.
pub record Passed (k : List ℕ → List ℕ) (lens : List ℕ) (f m : ℕ) (c : List ℕ) (L : List (List ℕ)) (x at n : ℕ) : Type 0 where
  pub passed : List (List ℕ)
  pub rest : List (List ℕ)
  pub parts : L ≡ passed ++ rest
  pub here : x ≡ f + length (flatten passed)
  pub count : n ≡ met k c passed
  pub heads : Heads lens x rest
  pub found : ((at ≡ m) × (place k c L ≡ passed ++ place k c rest)) ⊎ ((at < m) × Spot k f L c at)

none_passed : (k : List ℕ → List ℕ) {s lens : List ℕ} {f m : ℕ} (c : List ℕ) {p q : List ℕ} {L : List (List ℕ)} → Stand s lens f m p L q → Passed k lens f m c L f m 0
unfolding sum flatten
none_passed k c {L = L} t = record { passed = []; rest = L; parts = refl; here = omega arith; count = refl; heads = t.heads; found = inl (refl, refl) }

module _ {k : List ℕ → List ℕ} {s lens : List ℕ} {f m : ℕ} {c : List ℕ} {p q : List ℕ} {L : List (List ℕ)} {x at n : ℕ} (t : Stand s lens f m p L q) (g : Passed k lens f m c L x at n) where
  total : m ≡ x + length (flatten g.rest)
  total = omega (arith, t.ends, ap (λ l. length (flatten l)) g.parts, length_both g.passed g.rest, g.here)

  -- all are passed: the place is behind the last, if it is not found
  all-passed : m ≤ x → Spot k f L c at × (n ≡ met k c L)
  unfolding place
  all-passed h =
      let none = empty lens x g.rest (omega (arith, total)) g.heads in
      let all : L ≡ g.passed = g.parts ∙ ap (λ l. g.passed ++ l) none ∙ append-nil g.passed in (
        ⊎_elim (λ w. record {
          front = L;
          back = [];
          parts = sym (append-nil L);
          sorted = w.1 ∙ ap (λ l. g.passed ++ place k c l) none ∙ ap (λ l. l ++ (c ∷ [])) (sym all);
          is = w.0 ∙ sym t.ends;
        }) (λ w. w.1) g.found,
        g.count ∙ ap (met k c) (sym all),
      )

  module _ (h : x < m) where
    next : First g.rest
    next = first_of g.rest (omega (arith, total))

    heads_are : Heads lens x (next.first ∷ next.others)
    heads_are = subst (Heads lens x) next.is g.heads

    -- the next part, by its length
    next_fits : (1 ≤ get_or lens x 0) × (x + get_or lens x 0 ≤ m)
    next_fits =
        let long = ap (λ l. length (flatten l)) next.is ∙ length_first next.first next.others in
        (omega (arith, heads_are.0, heads_are.1), omega (arith, heads_are.0, total))

    next_is : part x (x + get_or lens x 0) s ≡ next.first
    next_is =
        middle-part p q g.passed next.others next.first x (x + get_or lens x 0)
        (t.whole ∙ ap (λ l. p ++ (flatten l ++ q)) (g.parts ∙ ap (λ l. g.passed ++ l) next.is)) (omega (arith, g.here, t.begins)) (omega (arith, heads_are.0))

    module _ {i : ℕ} (st : i ≡ looked (k (part x (x + get_or lens x 0) s)) (k c)) where
      -- it is passed
      on : {at' : ℕ} → ((at' ≡ m) × (place k c L ≡ (g.passed ++ (next.first ∷ [])) ++ place k c next.others)) ⊎ ((at' < m) × Spot k f L c at')
          → Passed k lens f m c L (x + get_or lens x 0) at' (n + i)
      on w = record {
        passed = g.passed ++ (next.first ∷ []);
        rest = next.others;
        parts = g.parts ∙ ap (λ l. g.passed ++ l) next.is ∙ sym (append_assoc g.passed (next.first ∷ []) next.others);
        here = omega (arith, g.here, length_one g.passed next.first, heads_are.0);
        count = ap₂ ◌+◌ g.count (st ∙ ap (λ d. looked (k d) (k c)) next_is) ∙ sym (met-more k c g.passed next.first);
        heads = subst (λ j. Heads lens (x + j) next.others) (sym heads_are.0) heads_are.2;
        found = w;
      }

      not_smaller : k (part x (x + get_or lens x 0) s) ≽ k c → Passed k lens f m c L (x + get_or lens x 0) at (n + i)
      not_smaller e =
          on (⊎_elim (λ w. inl (
            w.0,
            w.1
                ∙ ap (λ l. g.passed ++ place k c l) next.is
                ∙ ap (λ l. g.passed ++ l) (place_past k c next.first next.others (subst (λ d. k d ≽ k c) next_is e))
                ∙ sym (append_assoc g.passed (next.first ∷ []) (place k c next.others)),
          )) inr g.found)

      -- the first that is smaller
      smaller : (k (part x (x + get_or lens x 0) s) ≽ k c → ⊥) → at ≡ m → Passed k lens f m c L (x + get_or lens x 0) x (n + i)
      smaller e j =
          on (⊎_elim (λ w. inr (
            h,
            record {
              front = g.passed;
              back = next.first ∷ next.others;
              parts = g.parts ∙ ap (λ l. g.passed ++ l) next.is;
              sorted =
                  w.1
                  ∙ ap (λ l. g.passed ++ place k c l) next.is
                  ∙ ap (λ l. g.passed ++ l) (place_here k c next.first next.others (λ l. e (subst (λ d. k d ≽ k c) (sym next_is) l)));
              is = g.here;
            },
          )) (λ w. let z : ⊥ = omega (arith, w.0) in absurd z) g.found)

      -- a later one
      later : (at ≡ m → ⊥) → Passed k lens f m c L (x + get_or lens x 0) at (n + i)
      later j = on (⊎_elim (λ w. absurd (j w.0)) inr g.found)

-- the same of all parts that may stand there
pub record Looking (k : List ℕ → List ℕ) (s lens : List ℕ) (f m : ℕ) (c : List ℕ) (x at n : ℕ) : Type 0 where
  pub upper : x ≤ m
  pub spot : at ≤ m
  pub few : n + f ≤ x
  pub all : (p q : List ℕ) (L : List (List ℕ)) → Stand s lens f m p L q → Passed k lens f m c L x at n

pub look : (k : List ℕ → List ℕ) {s lens : List ℕ} {f m : ℕ} (c : List ℕ) → Standing s lens f m → Looking k s lens f m c f m 0
look k c t = record {
  upper = omega (arith, t.stand.ends);
  spot = omega arith;
  few = omega arith;
  all = λ p q L u. none_passed k c u;
}

module _ {k : List ℕ → List ℕ} {s lens : List ℕ} {f m : ℕ} {c : List ℕ} {x at n : ℕ} (t : Standing s lens f m) (g : Looking k s lens f m c x at n) where
  pub found : m ≤ x → (p q : List ℕ) (L : List (List ℕ)) → Stand s lens f m p L q → Spot k f L c at × (n ≡ met k c L)
  found h p q L u = all-passed u (g.all p q L u) h

  module _ (h : x < m) where
    pub fits : (1 ≤ get_or lens x 0) × (x + get_or lens x 0 ≤ m)
    fits = next_fits t.stand (g.all t.before t.behind t.parts t.stand) h

    module _ {i j : ℕ} (is : j ≡ get_or lens x 0) (e : i ≤ j) (st : i ≡ looked (k (part x (x + j) s)) (k c)) where
      same : i ≡ looked (k (part x (x + get_or lens x 0) s)) (k c)
      same = subst (λ j. i ≡ looked (k (part x (x + j) s)) (k c)) is st

      further : {at' : ℕ} → at' ≤ m → ((p q : List ℕ) (L : List (List ℕ)) → Stand s lens f m p L q → Passed k lens f m c L (x + get_or lens x 0) at' (n + i))
          → Looking k s lens f m c (x + j) at' (n + i)
      further {at'} l a = record {
        upper = omega (arith, fits.1);
        spot = l;
        few = omega (arith, g.few);
        all = λ p q L u. subst (λ j. Passed k lens f m c L (x + j) at' (n + i)) (sym is) (a p q L u);
      }

      pub past : k (part x (x + j) s) ≽ k c → Looking k s lens f m c (x + j) at (n + i)
      past b = further g.spot (λ p q L u. not_smaller u (g.all p q L u) h same (subst (λ j. k (part x (x + j) s) ≽ k c) is b))

      pub first : (k (part x (x + j) s) ≽ k c → ⊥) → at ≡ m → Looking k s lens f m c (x + j) x (n + i)
      first b l = further (omega arith) (λ p q L u. smaller u (g.all p q L u) h same (λ a. b (subst (λ j. k (part x (x + j) s) ≽ k c) (sym is) a)) l)

      pub behind : (at ≡ m → ⊥) → Looking k s lens f m c (x + j) at (n + i)
      behind l = further g.spot (λ p q L u. later u (g.all p q L u) h same l)
