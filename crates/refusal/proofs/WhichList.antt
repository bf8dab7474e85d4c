-- The tables of two lists, and of two lists and a map: what their check answered; where none refuses; what each refuses; which of them it is; that it fits into bytes.
-- Here stands what rests on `First`; the rest is in `specs.Lists`. Assumes nothing.
use Rattle.std.specs.Prelude.{◌≡◌, ◌⊎◌, ◌↔◌, true, List, [], ◌∷◌, ◌++◌, ℕ, ◌≤◌, ◌<◌, length, ltb}
use Rattle.std.proofs.Common.{sym, ◌∙◌, inl, inr, ⊎_elim, arith, ltb-true}
use Rattle.refusal.specs.document.Table.{Row, of_list, Clear, First, FirstRefusal, OutcomeOf, short}
use Rattle.refusal.specs.document.Lowest.{Lowest, LowestWins}
use Rattle.refusal.specs.document.Lists.{lists_rows, maps_rows, OfLists, OfThree, HandsMap, HandsOut}
use Rattle.refusal.specs.document.Small.{SmallOf, Bounded, BoundedBy}
use Rattle.refusal.specs.Laws.{refusal_front, list_clear}
use Rattle.refusal.proofs.Laws.{one_accepted, refusal_back, refusal_either, list-refused, list-told}
use Rattle.refusal.specs.Lowest.{both_left, both_right}
use Rattle.refusal.specs.Giving.{one_written}
use Rattle.refusal.proofs.Bounded.{bounded_both}
use Rattle.refusal.specs.Lists.{lists_clear, maps_clear, maps-lists, OneMap, below22}

module _ (Z A B : List Row) where
  -- what belongs to no list; the first list; the second
  pub lists-none : {k p : ℕ} → FirstRefusal Z k p → FirstRefusal (lists_rows Z A B) (0, k) p
  lists-none l = refusal_front (of_list 1 A ++ of_list 2 B) (list-refused 0 Z l)

  pub lists-first : {k p : ℕ} → Clear Z → FirstRefusal A k p → FirstRefusal (lists_rows Z A B) (1, k) p
  lists-first z l = refusal_back ((list_clear 0 Z).0 z) (refusal_front (of_list 2 B) (list-refused 1 A l))

  pub lists-second : {k p : ℕ} → Clear Z → Clear A → FirstRefusal B k p → FirstRefusal (lists_rows Z A B) (2, k) p
  lists-second z c l = refusal_back ((list_clear 0 Z).0 z) (refusal_back ((list_clear 1 A).0 c) (list-refused 2 B l))

  -- A refusal says which list, and the first list's comes first.
  pub which_list : LowestWins A → LowestWins B → (i k p : ℕ) → FirstRefusal (lists_rows Z A B) (i, k) p ↔ OfLists Z A B i k p
  which_list a b i k p = (forth, back)
    where
      of_two : FirstRefusal (of_list 1 A ++ of_list 2 B) (i, k) p → ((i ≡ 1) × Lowest A k p) ⊎ ((i ≡ 2) × Clear A × Lowest B k p)
      of_two l =
          ⊎_elim (λ r. let (q, f) = list-told 1 A r in inl (q, (a k p).0 f)) (λ (c, r). let (q, f) = list-told 2 B r in inr (q, (list_clear 1 A).1 c, (b k p).0 f))
          (refusal_either (of_list 1 A) (of_list 2 B) l)

      forth : FirstRefusal (lists_rows Z A B) (i, k) p → OfLists Z A B i k p
      forth l = ⊎_elim (λ r. inl (list-told 0 Z r)) (λ (c, r). inr ((list_clear 0 Z).1 c, of_two r)) (refusal_either (of_list 0 Z) (of_list 1 A ++ of_list 2 B) l)

      back : OfLists Z A B i k p → FirstRefusal (lists_rows Z A B) (i, k) p
      back (inl (q, l)) = rw q (lists-none l)
      back (inr (z, inl (q, l))) = rw q (lists-first z ((a k p).1 l))
      back (inr (z, inr (q, c, l))) = rw q (lists-second z c ((b k p).1 l))

  module _ (M : List Row) where
    -- the map
    pub maps_third : {k p : ℕ} → Clear Z → Clear A → Clear B → FirstRefusal M k p → FirstRefusal (maps_rows Z A B M) (3, k) p
    maps_third z c d l = refusal_back ((lists_clear Z A B).1 (z, c, d)) (list-refused 3 M l)

    -- Of two lists and a map the first list's refusal comes first, then the second's, then the map's.
    pub which_of_three : LowestWins A → LowestWins B → LowestWins M → (i k p : ℕ) → FirstRefusal (maps_rows Z A B M) (i, k) p ↔ OfThree Z A B M i k p
    which_of_three a b m i k p = (
      (λ l. ⊎_elim (λ r. inl ((which_list a b i k p).0 r)) (λ (c, r).
          let (q, f) = list-told 3 M r in
          let (z, x, y) = (lists_clear Z A B).0 c in
          inr (q, z, x, y, (m k p).0 f)) (refusal_either (lists_rows Z A B) (of_list 3 M) l)),
      (λ d. ⊎_elim (λ r. maps-lists Z A B M ((which_list a b i k p).1 r)) (λ (q, z, x, y, l). rw q (maps_third z x y ((m k p).1 l))) d),
    )

module _ {Right : List ℕ → Type 0} {None : Type 0} where
  one_hands :
      {old s t : List ℕ} → ((w z : List ℕ) → Right w → Right z → w ≡ z) × ((w : List ℕ) → Right w → None → ⊥) → (a b : ℕ) → HandsMap Right None old a s
      → HandsMap Right None old b t → (a ≡ b) × (s ≡ t)
  one_hands (one, never) a b (inl v) (inl w) = one_written one a b v w
  one_hands (one, never) a b (inl v) (inr (e, f, n)) = absurd (never v.result v.right n)
  one_hands (one, never) a b (inr (e, f, n)) (inl w) = absurd (never w.result w.right n)
  one_hands (one, never) a b (inr (e, f, n)) (inr (g, h, m)) = (e ∙ sym g, f ∙ sym h)

  pub one-handed_out : (Z A B : List Row) {old new new' : List ℕ} {o u : OutcomeOf (ℕ × ℕ) ℕ} → OneMap Z A B Right None → HandsOut Z A B Right None old new o → HandsOut Z A B Right None old new' u
      → (o ≡ u) × (new ≡ new')
  one-handed_out Z A B {old} one x y =
      one_accepted (λ c a b v w. let (z, k, l, m) = (maps_clear Z A B (short Right (length old) ∷ [])).0 c in one_hands (one z k l) a b v w) x y

first_below : (rs : List Row) (k p : ℕ) → below22 rs ≡ true → First rs k p → k < 22
first_below (r ∷ rs) k p t (inl (n, a, f)) = let l = ltb-true r.number 22 (both_left _ (below22 rs) t) in omega arith
first_below (r ∷ rs) k p t (inr (n, f)) = first_below rs k p (both_right (ltb r.number 22) _ t) f
-- the table of one list or of the map
first_below [] k p t x'' = elim x'' [ ]

pub bounded_of : (most i : ℕ) (rs : List Row) → (1 ≤ i) × (i ≤ most) → below22 rs ≡ true → Bounded rs → BoundedBy (SmallOf most) (of_list i rs)
bounded_of most i rs h t b =
    record {
      refusal =
          λ (j, k) p l.
          let (q, f) = list-told i rs l in
          let (n, s) = b.refusal k p f in
          let m : k < 22 = first_below rs k p t f.is in
          (inr ((omega arith, omega arith), n, λ z. (let x : ⊥ = omega arith in x)), s);
    }

-- those of two lists
pub bounded_lists :
    (most : ℕ) (Z A B : List Row) → 2 ≤ most → BoundedBy (SmallOf most) (of_list 0 Z) → below22 A ≡ true → below22 B ≡ true → Bounded A → Bounded B
    → BoundedBy (SmallOf most) (lists_rows Z A B)
bounded_lists most Z A B h z t u a b =
    bounded_both (of_list 0 Z) (of_list 1 A ++ of_list 2 B) z (λ c.
    bounded_both (of_list 1 A) (of_list 2 B) (bounded_of most 1 A (omega arith, omega arith) t a) (λ d. bounded_of most 2 B (omega arith, omega arith) u b))
