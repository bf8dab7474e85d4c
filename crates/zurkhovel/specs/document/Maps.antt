-- Document 02, wish 4, "The verdict, in full": "Where the verdict is yes, hand out such a renumbering", and "A partner's own renumbering is accepted exactly if
-- it carries every edge of the first list to an edge of the second and uses each number once."
--
-- In order: the answer, as it is told; the map's table behind those of the lists; the two promises. What a map is, its rows, and which one is handed
-- out is in the crate `renumber`; what "same" means, and that a map that is handed out is accepted, in `Meaning`. Assumes nothing.
use Rattle.std.specs.Prelude.{◌≡◌, false, List, [], ◌∷◌, ℕ}
use Rattle.refusal.specs.document.Table.{RowOf, Row, OutcomeOf, Answered}
use Rattle.refusal.specs.document.Lists.{maps_rows, HandsOut}
use Rattle.edition.specs.document.Edition.{row22}
use Rattle.renumber.specs.document.Map.{map_rows, HandedOut}
use Rattle.zurkhovel.specs.document.Same.{list_rows, EqualCodes}

-- how many bytes are written, or which list is refused, or 3 for the map, with number and place
abbrev pub MapOutcome : Type 0
MapOutcome = OutcomeOf (ℕ × ℕ) ℕ

-- "Refusals, after both lists' own": those of the map
abbrev pub three_rows : ℕ → ℕ → List ℕ → ℕ → List ℕ → List Row → List (RowOf (ℕ × ℕ))
three_rows e N E P F rs = maps_rows (row22 e ∷ []) (list_rows e N E) (list_rows e P F) rs

-- in the edition e, the renumbering of N vertices with the edges E onto P vertices with the edges F, where they are the same; 15 where it does not fit
abbrev pub HandOut : ℕ → ℕ → List ℕ → ℕ → List ℕ → List ℕ → List ℕ → MapOutcome → Type 0
HandOut e N E P F old new o = HandsOut (row22 e ∷ []) (list_rows e N E) (list_rows e P F) (HandedOut N E P F) (EqualCodes N E P F false) old new o

-- whether the map w is one; nothing is written
abbrev pub CheckRenumbering : ℕ → ℕ → List ℕ → ℕ → List ℕ → List ℕ → MapOutcome → Type 0
CheckRenumbering e N E P F w o = Answered (three_rows e N E P F (map_rows N E P F w)) (λ n. n ≡ 0) o
