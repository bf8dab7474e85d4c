-- Document 02, wish 8, "Line edition 2, up to nine neighbours": "In edition 2 the root's digit may be 9 and the others 8. The caller names the
-- edition.", and "Refusals: 22 edition not 1 or 2, before all others."
--
-- In order: which editions there are; how many neighbours a vertex may have in each; row 22; a table with 22 before all others. What a digit may be
-- follows from the neighbours: `cap` of the crate `digit_code`. Assumes nothing.
use Rattle.std.specs.Prelude.{◌≡◌, ◌⊎◌, List, ◌∷◌, ℕ, zero, suc}
use Rattle.refusal.specs.document.Table.{Row}
use Rattle.limits.specs.document.Limits.{valence}

-- there is an edition e
abbrev pub IsEdition : ℕ → Type 0
IsEdition e = (e ≡ 1) ⊎ (e ≡ 2)

-- neighbours of a vertex in the edition e, at most: four in edition 1, nine in edition 2; where there is no such edition, none
unfoldable pub neighbours_in : ℕ → ℕ
neighbours_in zero = 0
neighbours_in (suc zero) = valence
neighbours_in (suc (suc zero)) = 9
neighbours_in (suc (suc (suc e))) = 0

-- 22: edition not 1 or 2
abbrev pub row22 : ℕ → Row
row22 e = record { number = 22; applies = λ p. (p ≡ 0) × (IsEdition e → ⊥) }

-- "before all others": a table, which rows has for any limit on neighbours, in the edition e
abbrev pub in_edition : ℕ → (ℕ → List Row) → List Row
in_edition e rows = row22 e ∷ rows (neighbours_in e)
