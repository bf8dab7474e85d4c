-- The turns of the recursion along a vertex's row. In order: what a call knows (`Call`), what holds after some turns (`Sofar`), the turn
-- that meets the parent, the part of a child where it is written (`Written`: by the recursion and then arranged, or a leaf's), and the turn
-- that takes it in. Assumes nothing.
use mathlib.Core.Path.{◌≡◌, refl, sym, ap, ap₂, subst, ◌∙◌}
use mathlib.Core.Logic.{⊎_elim}
use mathlib.Core.Bool.{false}
use mathlib.Core.List.{List, [], ◌∷◌, ◌++◌, append_assoc, append-nil, flatten, map, map-append}
use Prim.Native.Nat.{ℕ, ◌+◌, ◌*◌, ◌≤◌, ◌<◌}
use native.Mathlib.Numerals.{add-one}
use native.Mathlib.Omega.{arith}
use lib.ListN.{length, get_or, set, take, drop, length-append, length-set, take-append-drop}
use lib.Seq.{take_at, take-suc-set, length-take-le, get_or-set_same, get_or-set_other}
use Rattle.digit_code.specs.document.Code.{sum}
use Rattle.digit_code.specs.Counting.{sum-append}
use Rattle.limits.specs.document.Limits.{size}
use Rattle.limits.specs.Width.{width}
use Rattle.numbering.specs.document.Order.{sort_by, insert_by}
use Rattle.numbering.specs.Order.{pairs}
use Rattle.rooted_coder.specs.Ordered.{marked, row, cell, kids, ordered, compared, Rows, Heads, Stand, Standing, end_of, Arranges, Several, Hangs, Covers}
use Rattle.rooted_coder.proofs.Standing.{flatten_one, length_one, length_both, length_first, heads_join, heads_move}
use Rattle.rooted_coder.proofs.Depth.{branches, some_ordered, ordered_is, compared_is, ordered_length, alone}
use Rattle.rooted_coder.proofs.Kids.{rest, row_ends, zero_ends, past_parent, one_child, lone}

-- a call for the vertex v that stands at `at`, whose parent is p
pub record Call (m : List ℕ) (t : List (List ℕ)) (out lens : List ℕ) (p v at : ℕ) : Type 0 where
  pub rows : Rows t v
  pub outs : length out ≡ size
  pub long : length lens ≡ size
  pub one : get_or lens at 0 ≡ 1
  pub room : at + length (ordered m t p v) ≤ size

-- after j columns of its row: the parts of the children so far hang there
pub record Sofar (m : List ℕ) (t : List (List ℕ)) (p : ℕ) (out₀ lens₀ out lens : List ℕ) (v at j n : ℕ) : Type 0 where
  pub done : List ℕ
  pub split : kids t p v ≡ done ++ rest p (row t v) j
  pub turns : j ≤ width
  pub hangs : Hangs m t out₀ lens₀ out lens v at done n

module _ {m : List ℕ} {t : List (List ℕ)} {out₀ lens₀ : List ℕ} {p v at : ℕ} (c : Call m t out₀ lens₀ p v at) where
  -- all its children's parts have their places
  total : at + 1 + length (flatten (branches m t p v)) ≤ size
  total = omega (arith, c.room, ordered_length m t p v (omega (arith, c.room)))

  pub below : at < size
  below = omega (arith, total)

  wide_row : length (row t v) ≡ width
  wide_row = c.rows.wide v c.rows.some c.rows.inside

  pub start : Sofar m t p out₀ lens₀ out₀ lens₀ v at 0 0
  unfolding kids flatten sum
  start = record {
    done = [];
    split = refl;
    turns = omega arith;
    hangs = record {
      outs = c.outs;
      long = c.long;
      behind = drop (at + 1) out₀;
      whole = sym (take-append-drop (at + 1) out₀);
      head = c.one;
      heads = tt;
      kept = λ i h. refl;
      count = refl;
      few = omega arith;
    };
  }

  module _ {out lens : List ℕ} {j n : ℕ} (s : Sofar m t p out₀ lens₀ out lens v at j n) where
    -- the row ends
    finish : rest p (row t v) j ≡ [] → Hangs m t out₀ lens₀ out lens v at (kids t p v) n
    finish e = subst (λ ws. Hangs m t out₀ lens₀ out lens v at ws n) (sym (s.split ∙ ap (λ l. s.done ++ l) e ∙ append-nil s.done)) s.hangs

    pub at_zero : j < width → {w : ℕ} → w ≡ cell t v j → w ≡ 0 → Hangs m t out₀ lens₀ out lens v at (kids t p v) n
    at_zero h is z = finish (zero_ends p (row t v) j (omega (arith, wide_row)) (sym is ∙ z))

    pub at-end : width ≤ j → Hangs m t out₀ lens₀ out lens v at (kids t p v) n
    at-end h = finish (row_ends p (row t v) j (omega (arith, wide_row)))

    -- the next number of the row is a vertex
    module _ (h : j < width) {w : ℕ} (is : w ≡ cell t v j) (n0 : w ≡ 0 → ⊥) where
      not_zero : get_or (row t v) j 0 ≡ 0 → ⊥
      not_zero e = n0 (is ∙ e)

      pub inside : Rows t w
      inside =
          let l = c.rows.within v j c.rows.some c.rows.inside h in
          record {
            number = c.rows.number;
            few = c.rows.few;
            some = omega arith;
            inside = omega arith;
            wide = c.rows.wide;
            within = c.rows.within;
            back = c.rows.back;
          }

      -- the parent is passed over
      pub skip : w ≡ p → Sofar m t p out₀ lens₀ out lens v at (j + 1) n
      skip e = record {
        done = s.done;
        split = s.split ∙ ap (λ l. s.done ++ l) (past_parent p (row t v) j (omega (arith, wide_row)) not_zero (sym is ∙ e) ∙ ap (rest p (row t v)) (sym (add-one j)));
        turns = omega arith;
        hangs = s.hangs;
      }

      module _ (o : w ≡ p → ⊥) where
        grown : kids t p v ≡ (s.done ++ (w ∷ [])) ++ rest p (row t v) (j + 1)
        grown =
            s.split
            ∙ ap (λ l. s.done ++ l) (one_child p (row t v) j (omega (arith, wide_row)) not_zero (λ e. o (is ∙ e)) ∙ ap₂ (λ x y. x ∷ rest p (row t v) y) (sym is) (sym (add-one j)))
            ∙ sym (append_assoc s.done (w ∷ []) (rest p (row t v) (j + 1)))

        -- its part has its places
        pub room : end_of lens at + length (ordered m t v w) ≤ size
        room =
            let f = ordered m t v in
            let l : length (flatten (branches m t p v)) ≡ length (flatten (map f s.done)) + length (f w) + length (flatten (map f (rest p (row t v) (j + 1)))) =
            ap (λ ws. length (flatten (map f ws))) grown
            ∙ ap (λ l. length (flatten l)) (map-append f (s.done ++ (w ∷ [])) (rest p (row t v) (j + 1)) ∙ ap (λ l. l ++ map f (rest p (row t v) (j + 1))) (map-append f s.done (w ∷ [])))
            ∙ length_both (map f s.done ++ (f w ∷ [])) (map f (rest p (row t v) (j + 1)))
            ∙ ap (λ i. i + length (flatten (map f (rest p (row t v) (j + 1))))) (length_one (map f s.done) (f w)) in
            omega (arith, total, s.hangs.head)

-- the part of w, a child of v, stands at `at`; what stood before is as it was; n' pairs were looked at
pub record Written (m : List ℕ) (t : List (List ℕ)) (out lens out' lens' : List ℕ) (v w at n n' : ℕ) : Type 0 where
  pub outs : length out' ≡ size
  pub long : length lens' ≡ size
  pub behind : List ℕ
  pub whole : out' ≡ take at out ++ (ordered m t v w ++ behind)
  pub head : get_or lens' at 0 ≡ length (ordered m t v w)
  pub kept : (i : ℕ) → i < at → get_or lens' i 0 ≡ get_or lens i 0
  pub count : n' ≡ n + compared m t v w
  pub few : n' ≤ n + size * size * length (ordered m t v w)

pub same-written : {m : List ℕ} {t : List (List ℕ)} {out lens out' lens' out2 lens2 : List ℕ} {v w at n n' : ℕ} → out2 ≡ out' → lens2 ≡ lens' → Written m t out lens out' lens' v w at n n'
    → Written m t out lens out2 lens2 v w at n n'
same-written {m} {t} {out} {lens} {lens' = lens'} {out2 = out2} {v = v} {w = w} {at = at} {n = n} {n' = n'} eo el r =
    subst (λ l. Written m t out lens out2 l v w at n n') (sym el) (subst (λ o. Written m t out lens o lens' v w at n n') (sym eo) r)

-- one part or none is in order
lone_arranged : (k : List ℕ → List ℕ) (L : List (List ℕ)) → length L ≤ 1 → (sort_by k L ≡ L) × (pairs (map k L) ≡ 0)
unfolding sort_by insert_by pairs sum
lone_arranged k [] h = (refl, refl)
lone_arranged k (c ∷ []) h = (refl, refl)
lone_arranged k (c ∷ d ∷ L) h = let z : ⊥ = omega arith in absurd z

not_several : (lens : List ℕ) (at : ℕ) (L : List (List ℕ)) → Heads lens (at + 1) L → get_or lens at 0 ≡ 1 + length (flatten L) → Several lens at false → length L ≤ 1
not_several lens at [] h e s = omega arith
not_several lens at (c ∷ []) h e s = omega arith
not_several lens at (c ∷ d ∷ L) h e s =
    let l = length_first c (d ∷ L) in
    let k = length_first d L in
    let (h0, h1, h2) = h in
    let (k0, k1, k2) = h2 in
    let z : ⊥ = ⊎_elim (λ w. omega arith) (λ w. omega arith) (s.lone refl) in
    absurd z

-- the part of w, a child of v, has its places from `at` on
pub record Room (m : List ℕ) (t : List (List ℕ)) (out lens : List ℕ) (v w at : ℕ) : Type 0 where
  pub rows : Rows t w
  pub outs : length out ≡ size
  pub long : length lens ≡ size
  pub room : at + length (ordered m t v w) ≤ size

module _ {m : List ℕ} {t : List (List ℕ)} {out lens : List ℕ} {v w at : ℕ} (c : Room m t out lens v w at) where
  small : length (ordered m t v w) ≤ size
  small = omega (arith, c.room)

  pub within : at < size
  within = omega (arith, c.room, some_ordered m t v w)

  laid : get_or (set out at w) at 0 ≡ w
  laid = get_or-set_same out at w 0 (omega (arith, within, c.outs))

  one : get_or (set lens at 1) at 0 ≡ 1
  one = get_or-set_same lens at 1 0 (omega (arith, within, c.long))

  front : take (at + 1) (set out at w) ≡ take at out ++ (w ∷ [])
  front = ap (λ i. take i (set out at w)) (add-one at) ∙ take-suc-set out at w (omega (arith, within, c.outs))

  kept-laid : (i : ℕ) → i < at → get_or (set lens at 1) i 0 ≡ get_or lens i 0
  kept-laid i h = get_or-set_other lens at i 1 0 (λ e. omega arith)

  -- a leaf's part is w alone
  pub leaf : {out' lens' : List ℕ} {n n' : ℕ} → out' ≡ set out at w → lens' ≡ set lens at 1 → n' ≡ n → kids t v w ≡ [] → Written m t out lens out' lens' v w at n n'
  leaf {out'} {lens'} eo el en e =
      let (o, k) = alone m t v w small e in
      let l : length (ordered m t v w) ≡ 1 = ap length o in
      record {
        outs = ap length eo ∙ length-set out at w ∙ c.outs;
        long = ap length el ∙ length-set lens at 1 ∙ c.long;
        behind = drop (at + 1) (set out at w);
        whole =
            eo
            ∙ sym (take-append-drop (at + 1) (set out at w))
            ∙ ap (λ l. l ++ drop (at + 1) (set out at w)) front
            ∙ append_assoc (take at out) (w ∷ []) (drop (at + 1) (set out at w))
            ∙ ap (λ l. take at out ++ (l ++ drop (at + 1) (set out at w))) (sym o);
        head = ap (λ l. get_or l at 0) el ∙ one ∙ sym l;
        kept = λ i h. ap (λ l. get_or l i 0) el ∙ kept-laid i h;
        count = omega arith;
        few = omega arith;
      }

  module _ {out1 lens1 : List ℕ} (eo : out1 ≡ set out at w) (el : lens1 ≡ set lens at 1) where
    at-w : get_or out1 at 0 ≡ w
    at-w = ap (λ l. get_or l at 0) eo ∙ laid

    -- a call for w
    pub calls : Call m t out1 lens1 v (get_or out1 at 0) at
    calls = record {
      rows = subst (Rows t) (sym at-w) c.rows;
      outs = ap length eo ∙ length-set out at w ∙ c.outs;
      long = ap length el ∙ length-set lens at 1 ∙ c.long;
      one = ap (λ l. get_or l at 0) el ∙ one;
      room = subst (λ u. at + length (ordered m t v u) ≤ size) (sym at-w) c.room;
    }

    module _ {out2 lens2 : List ℕ} {r : ℕ} (h : Hangs m t out1 lens1 out2 lens2 (get_or out1 at 0) at (kids t v (get_or out1 at 0)) r) where
      g : Hangs m t out1 lens1 out2 lens2 w at (kids t v w) r
      g = subst (λ u. Hangs m t out1 lens1 out2 lens2 u at (kids t v u) r) at-w h

      -- what stood before `at` is as it was
      pub kept_called : (i : ℕ) → i < at → get_or lens2 i 0 ≡ get_or lens i 0
      kept_called i l = g.kept i l ∙ ap (λ l. get_or l i 0) el ∙ kept-laid i l

      pub ends : end_of lens2 at ≤ size
      ends = omega (arith, g.head, c.room, ordered_length m t v w small)

      stand : Stand out2 lens2 (at + 1) (end_of lens2 at) (take (at + 1) out1) (branches m t v w) g.behind
      stand = record {
        whole = g.whole;
        begins = length-take-le (at + 1) out1 (omega (arith, calls.outs, within));
        ends = omega (arith, g.head);
        heads = g.heads;
      }

      pub standing : Standing out2 lens2 (at + 1) (end_of lens2 at)
      standing = record { before = take (at + 1) out1; parts = branches m t v w; behind = g.behind; stand = stand }

      -- arranged, it is the part of w
      written : {out3 lens3 : List ℕ} {n r2 n' : ℕ} → length out3 ≡ size → length lens3 ≡ size → r2 ≤ size * size → ((i : ℕ) → i ≤ at → get_or lens3 i 0 ≡ get_or lens2 i 0)
          → Arranges (marked m) out3 (take (at + 1) out1) (branches m t v w) g.behind r2 → n' ≡ n + r + r2 → Written m t out lens out3 lens3 v w at n n'
      written {out3} {lens3} {n} {r2} {n'} lo ll f k a e =
          let long = ordered_length m t v w small in
          record {
            outs = lo;
            long = ll;
            behind = g.behind;
            whole =
                a.whole
                ∙ ap (λ l. l ++ (flatten (sort_by (marked m) (branches m t v w)) ++ g.behind)) (ap (take (at + 1)) eo ∙ front)
                ∙ append_assoc (take at out) (w ∷ []) (flatten (sort_by (marked m) (branches m t v w)) ++ g.behind)
                ∙ ap (λ l. take at out ++ (l ++ g.behind)) (sym (ordered_is m t v w small));
            head = k at (omega arith) ∙ omega (arith, g.head);
            kept = λ i l. k i (omega arith) ∙ kept_called i l;
            count = omega (arith, g.count, a.count, compared_is m t v w small);
            few = omega (arith, g.few);
          }

      -- what `arrange` did, which was called at q
      pub arranged : {out3 lens3 : List ℕ} {n r2 n' q : ℕ} → q ≡ at → length out3 ≡ size → length lens3 ≡ size → r2 ≤ size * size → ((i : ℕ) → i ≤ q → get_or lens3 i 0 ≡ get_or lens2 i 0)
          → ((p z : List ℕ) (L : List (List ℕ)) → Stand out2 lens2 (q + 1) (end_of lens2 q) p L z → Arranges (marked m) out3 p L z r2) → n' ≡ n + r + r2 → Written m t out lens out3 lens3 v w at n n'
      arranged {q = q} is lo ll f k a e =
          written lo ll f (λ i l. k i (omega arith))
          (a (take (at + 1) out1) g.behind (branches m t v w) (subst (λ q. Stand out2 lens2 (q + 1) (end_of lens2 q) (take (at + 1) out1) (branches m t v w) g.behind) (sym is) stand)) e

      -- where there are not several children nothing is to be done
      pub left_alone : {n n' q : ℕ} → q ≡ at → Several lens2 q false → n' ≡ n + r → Written m t out lens out2 lens2 v w at n n'
      left_alone {n} {n'} {q} is s e =
          let few = not_several lens2 at (branches m t v w) g.heads g.head (subst (λ q. Several lens2 q false) is s) in
          let (o, k) = lone_arranged (marked m) (branches m t v w) few in
          written g.outs g.long (omega arith) (λ i l. refl)
          (record { whole = g.whole ∙ ap (λ l. take (at + 1) out1 ++ (flatten l ++ g.behind)) (sym o); count = sym k }) (omega arith)

module _ {m : List ℕ} {t : List (List ℕ)} {out₀ lens₀ : List ℕ} {p v at : ℕ} (c : Call m t out₀ lens₀ p v at) {out lens : List ℕ} {j n : ℕ} (s : Sofar m t p out₀ lens₀ out lens v at j n)
    (h : j < width) {w : ℕ} (is : w ≡ cell t v j) (n0 : w ≡ 0 → ⊥) where
  -- a neighbour without a second one is a leaf
  pub leafy : {u : ℕ} → u ≡ v → cell t w 1 ≡ 0 → kids t u w ≡ []
  unfolding kids
  leafy {u} e z =
      let b : cell t w 0 ≡ v = ap (λ i. cell t i 0) is ∙ c.rows.back v j c.rows.some c.rows.inside h (omega arith) (ap (λ i. cell t i 1) (sym is) ∙ z) in
      lone u (row t w) (b ∙ sym e) z

  module _ (o : w ≡ p → ⊥) {u a : ℕ} (eu : u ≡ v) (ea : a ≡ end_of lens at) where
    pub roomy : Room m t out lens u w a
    roomy = record {
      rows = inside c s h is n0;
      outs = s.hangs.outs;
      long = s.hangs.long;
      room = subst (λ u. a + length (ordered m t u w) ≤ size) (sym eu) (omega (arith, room c s h is n0 o));
    }

    before : at < a
    before = omega (arith, s.hangs.head)

    module _ {out2 lens2 : List ℕ} {n2 : ℕ} (wr : Written m t out lens out2 lens2 u w a n n2) where
      new : Written m t out lens out2 lens2 v w a n n2
      new = subst (λ u. Written m t out lens out2 lens2 u w a n n2) eu wr

      where_ends : end_of lens2 at ≡ a
      where_ends = omega (arith, new.kept at before)

      there : get_or lens2 (end_of lens2 at) 0 ≡ length (ordered m t v w)
      there = ap (λ i. get_or lens2 i 0) where_ends ∙ new.head

      pub extends : (length lens2 ≡ size) × (end_of lens2 at < size) × (end_of lens2 (end_of lens2 at) ≤ at + size)
      extends = (new.long, omega (arith, where_ends, within roomy), omega (arith, where_ends, there, room c s h is n0 o))

      more : length (flatten (map (ordered m t v) (s.done ++ (w ∷ [])))) ≡ length (flatten (map (ordered m t v) s.done)) + length (ordered m t v w)
      more = ap (λ l. length (flatten l)) (map-append (ordered m t v) s.done (w ∷ [])) ∙ length_one (map (ordered m t v) s.done) (ordered m t v w)

      whole : out2 ≡ take (at + 1) out₀ ++ (flatten (map (ordered m t v) (s.done ++ (w ∷ []))) ++ new.behind)
      whole =
          let F = flatten (map (ordered m t v) s.done) in
          let l : length (take (at + 1) out₀ ++ F) ≡ a = rw (length-append, length-take-le (at + 1) out₀ (omega (arith, below c, c.outs))) (omega (arith, s.hangs.head)) in
          let first : take a out ≡ take (at + 1) out₀ ++ F =
          ap (take a) (s.hangs.whole ∙ sym (append_assoc (take (at + 1) out₀) F s.hangs.behind)) ∙ take_at (take (at + 1) out₀ ++ F) s.hangs.behind a l in
          let regroup : (take (at + 1) out₀ ++ F) ++ (ordered m t v w ++ new.behind) ≡ take (at + 1) out₀ ++ ((F ++ ordered m t v w) ++ new.behind) = simp append_assoc in
          new.whole
          ∙ ap (λ l. l ++ (ordered m t v w ++ new.behind)) first
          ∙ regroup
          ∙ ap (λ l. take (at + 1) out₀ ++ (l ++ new.behind)) (sym (ap flatten (map-append (ordered m t v) s.done (w ∷ [])) ∙ flatten_one (map (ordered m t v) s.done) (ordered m t v w)))

      -- the part is taken in
      pub taken : {lens3 : List ℕ} → lens3 ≡ set lens2 at (get_or lens2 at 0 + get_or lens2 (end_of lens2 at) 0) → Sofar m t p out₀ lens₀ out2 lens3 v at (j + 1) n2
      unfolding sum
      taken {lens3} e =
          let other : (i : ℕ) → (i ≡ at → ⊥) → get_or lens3 i 0 ≡ get_or lens2 i 0 = λ i k. ap (λ l. get_or l i 0) e ∙ get_or-set_other lens2 at i (get_or lens2 at 0 + get_or lens2 (end_of lens2 at) 0) 0 k in
          let here : get_or lens3 at 0 ≡ get_or lens2 at 0 + get_or lens2 (end_of lens2 at) 0 =
          ap (λ l. get_or l at 0) e ∙ get_or-set_same lens2 at (get_or lens2 at 0 + get_or lens2 (end_of lens2 at) 0) 0 (omega (arith, new.long, below c)) in
          let F = map (ordered m t v) s.done in
          let from : at + 1 + length (flatten F) ≡ a = omega (arith, s.hangs.head) in
          let heads : Heads lens3 (at + 1) (F ++ (ordered m t v w ∷ [])) =
          heads_join lens3 (at + 1) F (ordered m t v w ∷ [])
          (heads_move lens lens3 (at + 1) (at + 1) F (λ i k. other (at + 1 + i) (λ z. omega arith) ∙ new.kept (at + 1 + i) (omega arith)) s.hangs.heads)
          (ap (λ i. get_or lens3 i 0) from ∙ other a (λ z. omega (arith, before)) ∙ new.head, some_ordered m t v w, tt) in
          let sums : sum (map (compared m t v) (s.done ++ (w ∷ []))) ≡ sum (map (compared m t v) s.done) + (compared m t v w + 0) =
          ap sum (map-append (compared m t v) s.done (w ∷ [])) ∙ sum-append (map (compared m t v) s.done) (compared m t v w ∷ []) in
          record {
            done = s.done ++ (w ∷ []);
            split = grown c s h is n0 o;
            turns = omega arith;
            hangs = record {
              outs = new.outs;
              long = ap length e ∙ length-set lens2 at (get_or lens2 at 0 + get_or lens2 (end_of lens2 at) 0) ∙ new.long;
              behind = new.behind;
              whole = whole;
              head = here ∙ omega (arith, new.kept at before, there, s.hangs.head, more);
              heads = subst (Heads lens3 (at + 1)) (sym (map-append (ordered m t v) s.done (w ∷ []))) heads;
              kept = λ i k. other i (λ z. omega arith) ∙ new.kept i (omega (arith, before)) ∙ s.hangs.kept i k;
              count = omega (arith, new.count, s.hangs.count);
              few = omega (arith, new.few, s.hangs.few, more);
            };
          }

-- where the part is the root's, it begins the buffer
pub covers : {m : List ℕ} {t : List (List ℕ)} {out lens out' lens' : List ℕ} {r n : ℕ} → Written m t out lens out' lens' 0 r 0 0 n → Covers m t r out' n
covers w = record { outs = w.outs; behind = w.behind; whole = w.whole; count = omega (arith, w.count) }
