-- Laws of `Order`: sorting by a key sorts the keys, goes by placing one after the other, and keeps what is summed up; the pairs looked at grow by those of each new one;
-- the order's marks. Here stands what rests on `insert_by`; the rest is in `specs.Sorted`. Assumes nothing.
use Rattle.std.specs.Prelude.{◌≡◌, ℕ, zero, suc, ◌+◌, length}
use Rattle.std.proofs.Math.Path.{refl, ap, sym}
use Rattle.std.proofs.Common.{ap₂, ◌∙◌, arith}
use Rattle.std.proofs.Math.Logic.{ite, if_pos, if_neg}
use mathlib.Core.List.Permᴰ
use mathlib.Core.List.{List, [], ◌∷◌, ◌++◌, map, flatten, map-map, Permᴰ}
use Rattle.laws.specs.document.Order.{◌≽◌, dec≽, insert, sort}
use Rattle.laws.specs.Sorting.{trans≽, below≽}
use Rattle.digit_code.specs.document.Code.{sum}
use Rattle.digit_code.specs.Two.{map_flatten}
use Rattle.numbering.specs.document.Order.{insert_by, sort_by, order_by}
use Rattle.numbering.specs.Order.{place, marks_by}
use Rattle.numbering.specs.Sorted.{flatten_length, place_here, place_past}

sum_perm : {A : Type 0} (g : A → ℕ) {l m : List A} → Permᴰ l m → sum (map g l) ≡ sum (map g m)
unfolding sum
sum_perm g Permᴰ.nil = refl
sum_perm g (Permᴰ.cons e d) = ap₂ ◌+◌ (ap g e) (sum_perm g d)
sum_perm g (Permᴰ.swap {l = l} e f) = omega (arith, ap g e, ap g f)
sum_perm g (Permᴰ.trans d e) = sum_perm g d ∙ sum_perm g e

module _ (f : List ℕ → List ℕ) where
  -- what `insert_by` and `place` do at the first
  insert-at : (c d : List ℕ) (ds : List (List ℕ)) → f c ≽ f d → insert_by f c (d ∷ ds) ≡ c ∷ d ∷ ds
  unfolding insert_by
  insert-at c d ds h = if_pos (dec≽ (f c) (f d)) h (c ∷ d ∷ ds) (d ∷ insert_by f c ds)

  insert_past : (c d : List ℕ) (ds : List (List ℕ)) → (f c ≽ f d → ⊥) → insert_by f c (d ∷ ds) ≡ d ∷ insert_by f c ds
  unfolding insert_by
  insert_past c d ds h = if_neg (dec≽ (f c) (f d)) h (c ∷ d ∷ ds) (d ∷ insert_by f c ds)

  -- ---- keys

  insert_key : (c : List ℕ) (l : List (List ℕ)) → map f (insert_by f c l) ≡ insert (f c) (map f l)
  unfolding insert_by insert
  insert_key c [] = refl
  insert_key c (d ∷ ds) = step (dec≽ (f c) (f d)) (insert_key c ds)
    where
      step : (t : Dec (f c ≽ f d)) → map f (insert_by f c ds) ≡ insert (f c) (map f ds)
          → map f (ite t (c ∷ d ∷ ds) (d ∷ insert_by f c ds)) ≡ ite t (f c ∷ f d ∷ map f ds) (f d ∷ insert (f c) (map f ds))
      step (yes h) e = refl
      step (no h) e = ap (λ l. f d ∷ l) e

  -- the keys are sorted
  sort_key : (cs : List (List ℕ)) → map f (sort_by f cs) ≡ sort (map f cs)
  unfolding sort_by sort
  sort_key [] = refl
  sort_key (c ∷ cs) = insert_key c (sort_by f cs) ∙ ap (insert (f c)) (sort_key cs)

  -- ---- placing one after the other

  place_none : (c : List ℕ) → place f c [] ≡ c ∷ []
  unfolding place
  place_none c = refl

  insert-none : (c : List ℕ) → insert_by f c [] ≡ c ∷ []
  unfolding insert_by
  insert-none c = refl

  commute : (a c : List ℕ) (l : List (List ℕ)) → insert_by f a (place f c l) ≡ place f c (insert_by f a l)
  commute a c [] = step (dec≽ (f a) (f c))
    where
      step : Dec (f a ≽ f c) → insert_by f a (place f c []) ≡ place f c (insert_by f a [])
      step (yes h) = cc (place_none c, insert-none a, insert-at a c [] h, (place_past f) c a [] h)
      step (no h) = cc (place_none c, insert-none a, insert_past a c [] h, (place_here f) c a [] h)
  commute a c (d ∷ ds) = step (dec≽ (f d) (f c)) (dec≽ (f a) (f d)) (dec≽ (f a) (f c)) (commute a c ds)
    where
      step : Dec (f d ≽ f c) → Dec (f a ≽ f d) → Dec (f a ≽ f c) → insert_by f a (place f c ds) ≡ place f c (insert_by f a ds) → insert_by f a (place f c (d ∷ ds)) ≡ place f c (insert_by f a (d ∷ ds))
      step (yes h) (yes k) g e = cc ((place_past f) c d ds h, insert-at a d ds k, insert-at a d (place f c ds) k, (place_past f) c a (d ∷ ds) (trans≽ (f a) (f d) (f c) k h))
      step (yes h) (no k) g e = cc ((place_past f) c d ds h, insert_past a d ds k, insert_past a d (place f c ds) k, (place_past f) c d (insert_by f a ds) h)
      step (no h) (yes k) (yes g) e = cc ((place_here f) c d ds h, insert-at a d ds k, insert-at a c (d ∷ ds) g, (place_past f) c a (d ∷ ds) g)
      step (no h) (yes k) (no g) e = cc ((place_here f) c d ds h, insert-at a d ds k, insert_past a c (d ∷ ds) g, (place_here f) c a (d ∷ ds) g)
      step (no h) (no k) (yes g) e = absurd (k (trans≽ (f a) (f c) (f d) g (below≽ (f d) (f c) h)))
      step (no h) (no k) (no g) e = cc ((place_here f) c d ds h, insert_past a d ds k, insert_past a c (d ∷ ds) g, (place_here f) c d (insert_by f a ds) h)

  -- one more is placed among the sorted
  pub sort-more : (cs : List (List ℕ)) (c : List ℕ) → sort_by f (cs ++ (c ∷ [])) ≡ place f c (sort_by f cs)
  unfolding sort_by
  sort-more [] c = insert-none c ∙ sym (place_none c)
  sort-more (a ∷ cs) c = ap (insert_by f a) (sort-more cs c) ∙ commute a c (sort_by f cs)

  -- ---- sums and lengths

  insert_self : (c : List ℕ) (l : List (List ℕ)) → Permᴰ (c ∷ l) (insert_by f c l)
  unfolding insert_by
  insert_self c [] = Permᴰ.refl (c ∷ [])
  insert_self c (d ∷ ds) = step (dec≽ (f c) (f d)) (insert_self c ds)
    where
      step : (t : Dec (f c ≽ f d)) → Permᴰ (c ∷ ds) (insert_by f c ds) → Permᴰ (c ∷ d ∷ ds) (ite t (c ∷ d ∷ ds) (d ∷ insert_by f c ds))
      step (yes h) r = Permᴰ.refl (c ∷ d ∷ ds)
      step (no h) r = Permᴰ.trans (Permᴰ.swap refl refl) (Permᴰ.cons refl r)

  -- a list is rearranged by sorting
  pub sort_by_self : (cs : List (List ℕ)) → Permᴰ cs (sort_by f cs)
  unfolding sort_by
  sort_by_self [] = Permᴰ.nil
  sort_by_self (c ∷ cs) = Permᴰ.trans (Permᴰ.cons refl (sort_by_self cs)) (insert_self c (sort_by f cs))

  -- what is summed up over a list is the same over the sorted list
  pub sum_sorted : (g : List ℕ → ℕ) (cs : List (List ℕ)) → sum (map g (sort_by f cs)) ≡ sum (map g cs)
  sum_sorted g cs = sym (sum_perm g (sort_by_self cs))

  pub sorted_length : (cs : List (List ℕ)) → length (flatten (sort_by f cs)) ≡ length (flatten cs)
  sorted_length cs = flatten_length (sort_by f cs) ∙ sum_sorted length cs ∙ sym (flatten_length cs)

-- the marks of the vertices in their order are sorted likewise
pub order-marks : (m : ℕ → ℕ) (K : ℕ → ℕ → List ℕ) (n p v : ℕ) → map m (order_by m K n p v) ≡ marks_by m K n p v
unfolding order_by marks_by
order-marks m K zero p v = refl
order-marks m K (suc n) p v =
    ap (λ l. m v ∷ l) (
    map_flatten m (sort_by (map m) (map (order_by m K n v) (K p v)))
    ∙ ap flatten (sort_key (map m) (map (order_by m K n v) (K p v)) ∙ ap sort (map-map (map m) (order_by m K n v) (K p v) ∙ (λ i. map (λ w. order-marks m K n v w i) (K p v))))
    )
