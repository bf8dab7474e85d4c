-- Parts put in order, one after the other: the first ones stand sorted, the others behind them as they stood (`Sorts`). `Arranging` is the
-- loop's, of all parts that may stand there. Assumes nothing.
use mathlib.Core.Path.{◌≡◌, refl, sym, ap, ap₂, subst, ◌∙◌}
use mathlib.Core.Logic.{inl, inr}
use mathlib.Core.List.{List, [], ◌∷◌, ◌++◌, append_assoc, append-nil, flatten, map, map-append, map-map}
use Prim.Native.Nat.{ℕ, ◌+◌, ◌*◌, ◌≤◌, ◌<◌}
use native.Mathlib.Omega.{arith}
use lib.ListN.{length, get_or}
use Rattle.digit_code.specs.document.Code.{sum}
use Rattle.limits.specs.document.Limits.{size}
use Rattle.digit_code.specs.Compare.{looked}
use Rattle.numbering.specs.document.Order.{insert_by, sort_by}
use Rattle.numbering.specs.Order.{pairs, place}
use Rattle.numbering.specs.Sorted.{pairs-more}
use Rattle.numbering.proofs.Sorted.{sort-more, sum_sorted, sorted_length}
use Rattle.rooted_coder.specs.Ordered.{Heads, Stand, Standing, met, Waits, Waiting, Settles, Arranges}
use Rattle.rooted_coder.proofs.Standing.{length_both, length_first, First, first_of, empty, heads_move}

-- one more is compared with all before it
met-pairs : (k : List ℕ → List ℕ) (L : List (List ℕ)) (c : List ℕ) → pairs (map k (L ++ (c ∷ []))) ≡ pairs (map k L) + met k c (sort_by k L)
met-pairs k L c =
    ap pairs (map-append k L (c ∷ []))
    ∙ pairs-more (map k L) (k c)
    ∙ ap (λ l. pairs (map k L) + sum l) (map-map (λ d. looked d (k c)) k L)
    ∙ ap (λ n. pairs (map k L) + n) (sym (sum_sorted k (λ d. looked (k d) (k c)) L))

-- of the parts L some stand sorted, up to m, and the others behind them as they stood
pub record Sorts (k : List ℕ → List ℕ) (out lens : List ℕ) (f m n : ℕ) (p : List ℕ) (L : List (List ℕ)) (q : List ℕ) : Type 0 where
  pub done : List (List ℕ)
  pub rest : List (List ℕ)
  pub parts : L ≡ done ++ rest
  pub stand : Stand out lens f m p (sort_by k done) (flatten rest ++ q)
  pub heads : Heads lens m rest
  pub count : n ≡ pairs (map k done)

module _ (k : List ℕ → List ℕ) {out lens : List ℕ} {f e : ℕ} {p : List ℕ} {L : List (List ℕ)} {q : List ℕ} (t : Stand out lens f e p L q) (h : f < e) where
  one : First L
  one = first_of L (omega (arith, t.ends))

  heads_one : Heads lens f (one.first ∷ one.others)
  heads_one = subst (Heads lens f) one.is t.heads

  first_ends : (1 ≤ get_or lens f 0) × (f + get_or lens f 0 ≤ e)
  first_ends =
      let l = ap (λ l. length (flatten l)) one.is ∙ length_first one.first one.others in
      (omega (arith, heads_one.0, heads_one.1), omega (arith, heads_one.0, t.ends))

  -- the first part stands sorted by itself
  first_sorts : Sorts k out lens f (f + get_or lens f 0) 0 p L q
  unfolding sort_by insert_by pairs sum flatten
  first_sorts = record {
    done = one.first ∷ [];
    rest = one.others;
    parts = one.is;
    stand = record {
      whole = t.whole ∙ ap (λ l. p ++ (flatten l ++ q)) one.is ∙ ap (λ l. p ++ l) (append_assoc one.first (flatten one.others) q ∙ ap (λ l. l ++ (flatten one.others ++ q)) (sym (append-nil one.first)));
      begins = t.begins;
      ends = ap (λ l. f + length l) (append-nil one.first) ∙ ap (λ i. f + i) (sym heads_one.0);
      heads = (heads_one.0, heads_one.1, tt);
    };
    heads = subst (λ i. Heads lens (f + i) one.others) (sym heads_one.0) heads_one.2;
    count = refl;
  }

module _ {k : List ℕ → List ℕ} {out lens : List ℕ} {f e m n : ℕ} {p : List ℕ} {L : List (List ℕ)} {q : List ℕ} (whole : f + length (flatten L) ≡ e) (g : Sorts k out lens f m n p L q) where
  left : m + length (flatten g.rest) ≡ e
  left = omega (arith, g.stand.ends, sorted_length k g.done, ap (λ l. length (flatten l)) g.parts, length_both g.done g.rest)

  -- none is left
  all_sorted : e ≤ m → (out ≡ p ++ (flatten (sort_by k L) ++ q)) × (n ≡ pairs (map k L))
  unfolding flatten
  all_sorted h =
      let none = empty lens m g.rest (omega (arith, left)) g.heads in
      let all : g.done ≡ L = sym (g.parts ∙ ap (λ l. g.done ++ l) none ∙ append-nil g.done) in
      (g.stand.whole ∙ ap₂ (λ x y. p ++ (flatten (sort_by k x) ++ (flatten y ++ q))) all none, g.count ∙ ap (λ l. pairs (map k l)) all)

  module _ (h : m < e) where
    next : First g.rest
    next = first_of g.rest (omega (arith, left))

    heads_next : Heads lens m (next.first ∷ next.others)
    heads_next = subst (Heads lens m) next.is g.heads

    next_ends : (1 ≤ get_or lens m 0) × (m + get_or lens m 0 ≤ e)
    next_ends =
        let l = ap (λ l. length (flatten l)) next.is ∙ length_first next.first next.others in
        (omega (arith, heads_next.0, heads_next.1), omega (arith, heads_next.0, left))

    waits : Waits out lens f m p (sort_by k g.done) next.first (flatten next.others ++ q)
    unfolding flatten
    waits = record {
      stand = record {
        whole = g.stand.whole ∙ ap (λ l. p ++ (flatten (sort_by k g.done) ++ l)) (ap (λ l. flatten l ++ q) next.is ∙ append_assoc next.first (flatten next.others) q);
        begins = g.stand.begins;
        ends = g.stand.ends;
        heads = g.stand.heads;
      };
      head = heads_next.0;
      some = heads_next.1;
    }

    waiting : Waiting out lens f m
    waiting = record { before = p; parts = sort_by k g.done; one = next.first; behind = flatten next.others ++ q; is = waits }

    -- it is settled among them
    settles : {out' lens' : List ℕ} {b i : ℕ} → b ≡ m + get_or lens m 0
        → ((p : List ℕ) (L : List (List ℕ)) (c q : List ℕ) → Waits out lens f m p L c q → Settles k lens out' lens' f m p L c q i) → Sorts k out' lens' f b (n + i) p L q
    settles {out'} {lens'} {b} {i} eb all =
        let s = all p (sort_by k g.done) next.first (flatten next.others ++ q) waits in
        let c = next.first in
        let is : m + length c ≡ b = omega (arith, heads_next.0) in
        record {
          done = g.done ++ (c ∷ []);
          rest = next.others;
          parts = g.parts ∙ ap (λ l. g.done ++ l) next.is ∙ sym (append_assoc g.done (c ∷ []) next.others);
          stand =
              subst (λ l. Stand out' lens' f b p l (flatten next.others ++ q)) (sym (sort-more k g.done c))
              (subst (λ j. Stand out' lens' f j p (place k c (sort_by k g.done)) (flatten next.others ++ q)) is s.stand);
          heads =
              subst (λ j. Heads lens' j next.others) is
              (heads_move lens lens' (m + length c) (m + length c) next.others (λ j l. s.kept (m + length c + j) (inr (omega arith))) heads_next.2);
          count = ap₂ ◌+◌ g.count s.count ∙ sym (met-pairs k g.done c);
        }

-- the same of all parts that may stand there, and what is kept
pub record Arranging (k : List ℕ → List ℕ) (out₀ lens₀ out lens : List ℕ) (f e m n : ℕ) : Type 0 where
  pub outs : length out ≡ size
  pub long : length lens ≡ size
  pub kept : (i : ℕ) → i < f → get_or lens i 0 ≡ get_or lens₀ i 0
  pub lower : f ≤ m
  pub upper : m ≤ e
  pub few : n + size * f ≤ size * m
  pub all : (p q : List ℕ) (L : List (List ℕ)) → Stand out₀ lens₀ f e p L q → Sorts k out lens f m n p L q

pub begin : (k : List ℕ → List ℕ) {out lens : List ℕ} {f e m : ℕ} → length out ≡ size → length lens ≡ size → Standing out lens f e → f < e → m ≡ f + get_or lens f 0
    → Arranging k out lens out lens f e m 0
begin k {out} {lens} {f} a b t h is =
    let w = first_ends k t.stand h in
    record {
      outs = a;
      long = b;
      kept = λ i l. refl;
      lower = omega arith;
      upper = omega (arith, w.1);
      few = omega arith;
      all = λ p q L u. subst (λ j. Sorts k out lens f j 0 p L q) (sym is) (first_sorts k u h);
    }

module _ {k : List ℕ → List ℕ} {out₀ lens₀ out lens : List ℕ} {f e m n : ℕ} (t : Standing out₀ lens₀ f e) (g : Arranging k out₀ lens₀ out lens f e m n) where
  sorts : Sorts k out lens f m n t.before t.parts t.behind
  sorts = g.all t.before t.behind t.parts t.stand

  -- none is left
  pub arranged : e ≤ m → (p q : List ℕ) (L : List (List ℕ)) → Stand out₀ lens₀ f e p L q → Arranges k out p L q n
  arranged h p q L u = let w = all_sorted u.ends (g.all p q L u) h in record { whole = w.0; count = w.1 }

  module _ (h : m < e) where
    pub turn_ends : (1 ≤ get_or lens m 0) × (m + get_or lens m 0 ≤ e)
    turn_ends = next_ends t.stand.ends sorts h

    pub turn_waits : Waiting out lens f m
    turn_waits = waiting t.stand.ends sorts h

    pub turn : {out' lens' : List ℕ} {b i : ℕ} → b ≡ m + get_or lens m 0 → length out' ≡ size → length lens' ≡ size → i ≤ size
        → ((p : List ℕ) (L : List (List ℕ)) (c q : List ℕ) → Waits out lens f m p L c q → Settles k lens out' lens' f m p L c q i) → Arranging k out₀ lens₀ out' lens' f e b (n + i)
    turn {out'} {lens'} {b} {i} is lo ll few all = record {
      outs = lo;
      long = ll;
      kept = λ j l. kept_here j l ∙ g.kept j l;
      lower = omega (arith, g.lower, turn_ends);
      upper = omega (arith, turn_ends);
      few = omega (arith, g.few, turn_ends);
      all = λ p q L u. settles u.ends (g.all p q L u) h is all;
    }
      where
        kept_here : (j : ℕ) → j < f → get_or lens' j 0 ≡ get_or lens j 0
        kept_here j l = let w = turn_waits in (all w.before w.parts w.one w.behind w.is).kept j (inl l)
