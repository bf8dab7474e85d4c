-- Two edge lists and a map: the tables one behind the other, and the map that is handed out.
--
-- In order: where a refusal comes from; where there is none, and where something is answered; what a map that is handed out tells of the two lists. Assumes nothing.
use Rattle.std.specs.Prelude.{◌≡◌, ◌↔◌, true, List, [], ◌∷◌, ℕ, length}
use Rattle.std.proofs.Common.{sym, subst}
use Rattle.refusal.specs.document.Table.{Row, Clear, FirstRefusal, gives, kept, short}
use Rattle.refusal.specs.Laws.{clear_both, clear_left, others}
use Rattle.refusal.specs.Lists.{maps_clear, maps-lists}
use Rattle.refusal.proofs.WhichList.{maps_third}
use Rattle.skeleton.specs.document.Skeleton.{rooted}
use Rattle.form.specs.document.Form.{IsCentred}
use Rattle.form.specs.Root.{root-centred}
use Rattle.renumber.specs.document.Map.{HandedOut}
use Rattle.zurkhovel.specs.document.Same.{list_rows, both_rows, EqualCodes}
use Rattle.zurkhovel.specs.document.Maps.{three_rows, HandOut}
use Rattle.zurkhovel.specs.Accepted.{tree_of}
use Rattle.limits.specs.document.Limits.{size}
use Rattle.edition.specs.document.Edition.{row22}
use Rattle.zurkhovel.specs.document.InEdition.{edge_table}

module _ {e : ℕ} where
  module _ (N P : ℕ) (E F : List ℕ) (rs : List Row) where
    -- a list refuses, or the map
    pub lists_of : {i k p : ℕ} → FirstRefusal (both_rows e N E P F) (i, k) p → FirstRefusal (three_rows e N E P F rs) (i, k) p
    lists_of f = maps-lists (row22 e ∷ []) (list_rows e N E) (list_rows e P F) rs f

    pub third_of : {k p : ℕ} → Clear (edge_table e size N E 1) → Clear (edge_table e size P F 1) → FirstRefusal rs k p → FirstRefusal (three_rows e N E P F rs) (3, k) p
    third_of c d l = maps_third (row22 e ∷ []) (list_rows e N E) (list_rows e P F) rs (clear_left (row22 e ∷ []) (list_rows e N E) c) (others c) (others d) l

    -- none refuses
    pub three_clear : Clear (three_rows e N E P F rs) ↔ (Clear (edge_table e size N E 1) × Clear (edge_table e size P F 1) × Clear rs)
    three_clear =
        let (there, back) = maps_clear (row22 e ∷ []) (list_rows e N E) (list_rows e P F) rs in (
          (λ c. let (z, k, l, m) = there c in (clear_both z k, clear_both z l, m)),
          (λ (k, l, m). back (clear_left (row22 e ∷ []) (list_rows e N E) k, others k, others l, m)),
        )

  -- where the call hands something out, or nothing, both lists are accepted
  pub handed-lists : {N P : ℕ} {E F old new : List ℕ} {n : ℕ} → HandOut e N E P F old new (gives n) → Clear (edge_table e size N E 1) × Clear (edge_table e size P F 1)
  handed-lists {N} {P} {E} {F} {old} (kept c h) = let (k, l, m) = (three_clear N P E F (short (HandedOut N E P F) (length old) ∷ [])).0 c in (k, l)

  -- and where a map is, they have equal centred codes
  pub handed-codes : {N P : ℕ} {E F : List ℕ} → Clear (edge_table e size N E 1) → Clear (edge_table e size P F 1) → {w : List ℕ} → HandedOut N E P F w → EqualCodes N E P F true
  handed-codes {N} {P} {E} {F} k l x =
      (rooted N E x.root, root-centred (tree_of N E 1 k) x.rule, subst (IsCentred P F) (sym x.codes) (root-centred (tree_of P F 1 l) x.rule₂))

-- a map that is handed out has an entry for each vertex
pub handed_length : (N P : ℕ) (E F w : List ℕ) → HandedOut N E P F w → length w ≡ N
handed_length N P E F w x = x.renumbers.1
