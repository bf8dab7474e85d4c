-- The tables of two lists, and of two lists and a map: what their check answered; where none refuses; what each refuses; which of them it is; that it fits into bytes.
-- What rests on `First` is in `proofs.WhichList`. Assumes nothing.
use Rattle.std.specs.Prelude.{◌≡◌, ◌↔◌, Bool, true, List, [], ◌∷◌, ◌++◌, ℕ, ltb, Result, Ok, Err}
use Rattle.refusal.specs.declared.ListRefusal.{ListRefusal}
use Rattle.refusal.specs.Checks.{Judges, both_pass, one_fails}
use Rattle.refusal.specs.document.Table.{RowOf, Row, of_list, Clear, FirstRefusal}
use Rattle.refusal.specs.document.Lowest.{both}
use Rattle.refusal.specs.document.Lists.{lists_rows, maps_rows}
use Rattle.refusal.specs.document.Small.{SmallOf, BoundedBy}
use Rattle.refusal.specs.Laws.{clear_both, clear_left, clear_right, refusal_front, list_clear}

-- what the check of two lists answered, as its caller learns it
module _ {rs : List (RowOf (ℕ × ℕ))} where
  pub were_accepted : {a : Result (Unit {0}) ListRefusal} {u : Unit {0}} → Judges rs a → a ≡ Ok u → Clear rs
  were_accepted (both_pass c) e = c
  were_accepted (one_fails f) e = absurd cc

  pub one-refused : {a : Result (Unit {0}) ListRefusal} {r : ListRefusal} → Judges rs a → a ≡ Err r → FirstRefusal rs (r.list, r.refusal.row) r.refusal.place
  one-refused (both_pass c) e = absurd cc
  one-refused {r = r} (one_fails {r = s} f) e = let a : s ≡ r = cc in rw (← a) f

module _ (Z A B : List Row) where
  -- none refuses
  pub lists_clear : Clear (lists_rows Z A B) ↔ (Clear Z × Clear A × Clear B)
  lists_clear = (
    (λ c.
        let d = clear_right (of_list 0 Z) (of_list 1 A ++ of_list 2 B) c in (
          (list_clear 0 Z).1 (clear_left (of_list 0 Z) (of_list 1 A ++ of_list 2 B) c),
          (list_clear 1 A).1 (clear_left (of_list 1 A) (of_list 2 B) d),
          (list_clear 2 B).1 (clear_right (of_list 1 A) (of_list 2 B) d),
        )),
    (λ (z, k, l). clear_both ((list_clear 0 Z).0 z) (clear_both ((list_clear 1 A).0 k) ((list_clear 2 B).0 l))),
  )

  pub both_accepted : Clear (lists_rows Z A B) → Clear A × Clear B
  both_accepted c = let (z, k, l) = lists_clear.0 c in (k, l)

  -- ---- and a map

  module _ (M : List Row) where
    pub maps_clear : Clear (maps_rows Z A B M) ↔ (Clear Z × Clear A × Clear B × Clear M)
    maps_clear = (
      (λ c. let (z, k, l) = lists_clear.0 (clear_left (lists_rows Z A B) (of_list 3 M) c) in (z, k, l, (list_clear 3 M).1 (clear_right (lists_rows Z A B) (of_list 3 M) c))),
      (λ (z, k, l, m). clear_both (lists_clear.1 (z, k, l)) ((list_clear 3 M).0 m)),
    )

    -- one of the lists, or what belongs to none
    pub maps-lists : {i k p : ℕ} → FirstRefusal (lists_rows Z A B) (i, k) p → FirstRefusal (maps_rows Z A B M) (i, k) p
    maps-lists l = refusal_front (of_list 3 M) l

-- ---- the map that is handed out

-- what makes it one: of two accepted lists one map is right, and none where there is none
abbrev pub OneMap : List Row → List Row → List Row → (List ℕ → Type 0) → Type 0 → Type 0
OneMap Z A B Right None = Clear Z → Clear A → Clear B → ((w z : List ℕ) → Right w → Right z → w ≡ z) × ((w : List ℕ) → Right w → None → ⊥)

-- ---- what is told fits into bytes

-- each row's number is below 22
abbrev pub below22 : List Row → Bool
below22 [] = true
below22 (r ∷ rs) = both (ltb r.number 22) (below22 rs)

-- nothing belongs to no list
pub bounded_none : (most : ℕ) → BoundedBy (SmallOf most) (of_list 0 [])
bounded_none most = record { refusal = λ k p l. absurd l.is }
