-- Document 01, "Same skeleton": "A refusal says which list; the first list's comes first", and document 02, wish 4: "Refusals, after both lists' own".
--
-- The tables of a call that takes two lists, and of one that has a map between them. What refuses is called 1 or 2 for a list, 3 for the map, and 0 where it
-- belongs to none. Z: the table of what belongs to no list; A, B: those of the lists; M: that of the map. In order: the tables; which of them refuses; the promise
-- of a call that hands out a map. That it refuses so is `which_list` and `which_of_three`. Assumes nothing.
use Rattle.std.specs.Prelude.{◌≡◌, ◌⊎◌, List, [], ◌∷◌, ◌++◌, ℕ, length}
use Rattle.refusal.specs.document.Table.{RowOf, Row, of_list, Clear, FirstRefusal, OutcomeOf, Promise, Writes, short}
use Rattle.refusal.specs.document.Lowest.{Lowest}

-- "the first list's comes first"
abbrev pub lists_rows : List Row → List Row → List Row → List (RowOf (ℕ × ℕ))
lists_rows Z A B = of_list 0 Z ++ (of_list 1 A ++ of_list 2 B)

-- "after both lists' own"
abbrev pub maps_rows : List Row → List Row → List Row → List Row → List (RowOf (ℕ × ℕ))
maps_rows Z A B M = lists_rows Z A B ++ of_list 3 M

-- what refuses two lists with the number k at p is called i: 0 for what belongs to none; else each list's lowest number, the first list's first
abbrev pub OfLists : List Row → List Row → List Row → ℕ → ℕ → ℕ → Type 0
OfLists Z A B i k p = ((i ≡ 0) × FirstRefusal Z k p) ⊎ (Clear Z × (((i ≡ 1) × Lowest A k p) ⊎ ((i ≡ 2) × Clear A × Lowest B k p)))

-- or both are accepted, and it is the map's lowest number
abbrev pub OfThree : List Row → List Row → List Row → List Row → ℕ → ℕ → ℕ → Type 0
OfThree Z A B M i k p = OfLists Z A B i k p ⊎ ((i ≡ 3) × Clear Z × Clear A × Clear B × Lowest M k p)

-- what is lent holds a map that is right, n bytes; or there is none, as None says, and it is as it was
abbrev pub HandsMap : (List ℕ → Type 0) → Type 0 → List ℕ → ℕ → List ℕ → Type 0
HandsMap Right None old n new = Writes Right old n new ⊎ ((n ≡ 0) × (new ≡ old) × None)

-- the promise of a call that hands out such a map of two lists, where there is one; 15 of the map where it does not fit
abbrev pub HandsOut : List Row → List Row → List Row → (List ℕ → Type 0) → Type 0 → List ℕ → List ℕ → OutcomeOf (ℕ × ℕ) ℕ → Type 0
HandsOut Z A B Right None old new o = Promise (maps_rows Z A B (short Right (length old) ∷ [])) (HandsMap Right None old) old new o
