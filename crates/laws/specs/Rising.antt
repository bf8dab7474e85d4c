-- Numbers written by other numbers in the same order (`Rising`): lists of them stand in the dictionary as before, and are sorted as before.
--
-- In order: one number; two lists; sorting. Assumes nothing.
use Rattle.std.specs.Prelude.{◌≡◌, ◌↔◌, ℕ, ◌<◌}
use Rattle.std.proofs.Math.Path.{refl, ap}
use Rattle.std.proofs.Common.{ap₂, ◌∙◌, inl, inr, arith}
use Rattle.std.proofs.Math.Logic.{ite}
use mathlib.Core.List.{List, [], ◌∷◌, map, cons≢nil, nil≢cons, head-eq_of_cons-eq, tail-eq_of_cons-eq}
use Rattle.std.proofs.Math.Decide.{dec_lt}
use Rattle.laws.specs.document.Order.{◌≽◌, dec≽, insert, sort}
use Rattle.laws.specs.Sorting.{insert-at, insert_past}

-- a larger number for a larger one
abbrev pub Rising : (ℕ → ℕ) → Type 0
Rising φ = (a b : ℕ) → a < b → φ a < φ b

module _ (φ : ℕ → ℕ) (up : Rising φ) where
  -- ---- one number

  pub less-back : (a b : ℕ) → φ a < φ b → a < b
  less-back a b h = step (dec_lt a b) (dec_lt b a)
    where
      step : Dec (a < b) → Dec (b < a) → a < b
      step (yes l) d = l
      step (no l) (yes g) = let z : ⊥ = omega (arith, up b a g) in absurd z
      step (no l) (no g) = let e : a ≡ b = omega arith in let z : ⊥ = omega (arith, ap φ e) in absurd z

  pub equal-back : (a b : ℕ) → φ a ≡ φ b → a ≡ b
  equal-back a b e = step (dec_lt a b) (dec_lt b a)
    where
      step : Dec (a < b) → Dec (b < a) → a ≡ b
      step (yes l) d = let z : ⊥ = omega (arith, up a b l) in absurd z
      step (no l) (yes g) = let z : ⊥ = omega (arith, up b a g) in absurd z
      step (no l) (no g) = omega arith

  -- ---- two lists

  pub lists_back : (xs ys : List ℕ) → map φ xs ≡ map φ ys → xs ≡ ys
  lists_back [] [] e = refl
  lists_back [] (y ∷ ys) e = absurd (nil≢cons e)
  lists_back (x ∷ xs) [] e = absurd (cons≢nil e)
  lists_back (x ∷ xs) (y ∷ ys) e = ap₂ ◌∷◌ (equal-back x y (head-eq_of_cons-eq e)) (lists_back xs ys (tail-eq_of_cons-eq e))

  -- they stand as before
  pub same-order : (xs ys : List ℕ) → (xs ≽ ys) ↔ (map φ xs ≽ map φ ys)
  same-order xs [] = (λ h. tt, λ h. tt)
  same-order [] (y ∷ ys) = (λ h. h, λ h. h)
  same-order (x ∷ xs) (y ∷ ys) = let (there, back) = same-order xs ys in (
    λ h. elim h [ inl l ↦ inl (up y x l) | inr (e, r) ↦ inr (ap φ e, there r) ],
    λ h. elim h [ inl l ↦ inl (less-back y x l) | inr (e, r) ↦ inr (equal-back x y e, back r) ],
  )

  -- ---- sorting

  pub insert_risen : (c : List ℕ) (l : List (List ℕ)) → insert (map φ c) (map (map φ) l) ≡ map (map φ) (insert c l)
  unfolding insert
  insert_risen c [] = refl
  insert_risen c (d ∷ ds) = step (dec≽ c d) (insert_risen c ds)
    where
      step : (t : Dec (c ≽ d)) → insert (map φ c) (map (map φ) ds) ≡ map (map φ) (insert c ds)
          → insert (map φ c) (map φ d ∷ map (map φ) ds) ≡ map (map φ) (ite t (c ∷ d ∷ ds) (d ∷ insert c ds))
      step (yes h) e = insert-at (map φ c) (map φ d) (map (map φ) ds) ((same-order c d).0 h)
      step (no n) e = insert_past (map φ c) (map φ d) (map (map φ) ds) (λ h. n ((same-order c d).1 h)) ∙ ap (λ l. map φ d ∷ l) e

  pub sort_risen : (cs : List (List ℕ)) → sort (map (map φ) cs) ≡ map (map φ) (sort cs)
  unfolding sort
  sort_risen [] = refl
  sort_risen (c ∷ cs) = ap (insert (map φ c)) (sort_risen cs) ∙ insert_risen c (sort cs)
