-- What the calls on maps tell fits into bytes, as in `Places`: list 1 or 2, or 3 for the map, stands beside the number, and 0 beside 22.
--
-- In order: tables that refuse so; the calls. Assumes nothing.
use Rattle.std.specs.Prelude.{◌≡◌, refl, true, List, [], ◌∷◌, ℕ, ◌<◌, length}
use Rattle.std.proofs.Common.{⊎_elim, arith}
use Rattle.refusal.specs.document.Table.{Row, of_list, Clear, short}
use Rattle.refusal.specs.document.Small.{byte_values, Small, SmallOf, Bounded, BoundedBy}
use Rattle.refusal.specs.Bounded.{bounded_rows, at_0, small}
use Rattle.refusal.proofs.Bounded.{bounded_both}
use Rattle.limits.specs.document.Limits.{size}
use Rattle.renumber.specs.document.Map.{row5_map, row18, row19, map_rows, HandedOut}
use Rattle.renumber.specs.Exactly.{map_sizes}
use Rattle.zurkhovel.specs.document.Same.{both_rows}
use Rattle.zurkhovel.specs.document.Maps.{MapOutcome, three_rows, HandOut, CheckRenumbering}
use Rattle.zurkhovel.specs.Accepted.{skeleton_of}
use Rattle.refusal.specs.Lists.{below22}
use Rattle.refusal.proofs.WhichList.{bounded_of}
use Rattle.zurkhovel.specs.Listed.{bounded_lists}
use Rattle.zurkhovel.specs.Theorems.{both_clear}
use Rattle.zurkhovel.specs.Threes.{three_clear, handed_length}
use Rattle.zurkhovel.specs.document.InEdition.{edge_table}

module _ (e : ℕ) where
  -- two edge lists and a map
  bounded_three : (N P : ℕ) (E F : List ℕ) (rs : List Row) → below22 rs ≡ true → (Clear (edge_table e size N E 1) → Bounded rs) → BoundedBy (SmallOf 3) (three_rows e N E P F rs)
  bounded_three N P E F rs t b =
      bounded_both (both_rows e N E P F) (of_list 3 rs) (bounded_lists 3 e N P E F (omega arith))
      (λ c. bounded_of 3 3 rs (omega arith, omega arith) t (b ((both_clear N P E F).0 c).0))

  -- the rows of a map
  map_bounded : (N P : ℕ) (E F w : List ℕ) → Clear (edge_table e size N E 1) → Bounded (map_rows N E P F w)
  map_bounded N P E F w k =
      bounded_both (row5_map N P w ∷ []) (row18 N w ∷ row19 E F w ∷ []) (bounded_rows refl (at_0, tt)) (λ c.
      let s = skeleton_of {E = E} k in
      let l = (map_sizes N P w c).1 in
      bounded_rows refl ((λ p a. omega (arith, a.0.1, s.few)), ((λ p a. omega (arith, a.0.1, s.few, s.tree.edges)), tt)))

  -- ---- the calls

  pub places-renumbering : (N : ℕ) (E : List ℕ) (P : ℕ) (F old new : List ℕ) (o : MapOutcome) → HandOut e N E P F old new o → Small (SmallOf 3) (λ n. n < byte_values) o
  places-renumbering N E P F old new o g =
      small
      (bounded_three N P E F (short (HandedOut N E P F) (length old) ∷ []) refl
      (λ k. bounded_rows refl ((λ p (c, r, (e, l)). omega (arith, handed_length N P E F c r, (skeleton_of {E = E} k).few)), tt)))
      (λ c n h.
      let (k, l, m) = (three_clear N P E F (short (HandedOut N E P F) (length old) ∷ [])).0 c in
      ⊎_elim (λ w. let b : n < byte_values = omega (arith, w.count, handed_length N P E F w.result w.right, (skeleton_of {E = E} k).few) in b) (λ w. let b : n < byte_values = omega (arith, w.0) in b) h) g

  pub places-check-renumbering : (N : ℕ) (E : List ℕ) (P : ℕ) (F w : List ℕ) (o : MapOutcome) → CheckRenumbering e N E P F w o → Small (SmallOf 3) (λ n. n < byte_values) o
  places-check-renumbering N E P F w o g = small (bounded_three N P E F (map_rows N E P F w) refl (map_bounded N P E F w)) (λ c n e. omega arith) g
