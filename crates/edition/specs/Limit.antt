-- What is answered to a caller who names an edition. Assumes nothing.
use Rattle.std.specs.Prelude.{◌≡◌, [], ◌∷◌, ℕ, Result, MatchResult}
use Rattle.refusal.specs.document.Table.{FirstRefusal}
use Rattle.refusal.specs.declared.Refusal.{Refusal}
use Rattle.edition.specs.document.Edition.{IsEdition, neighbours_in, row22}

-- how many neighbours a vertex may have in the edition e; or there is none, and it is refused by 22
abbrev pub Limit : ℕ → Result ℕ Refusal → Type 0
Limit e o = MatchResult o (λ r. (r ≡ neighbours_in e) × IsEdition e) (λ x. (neighbours_in e ≡ 0) × FirstRefusal (row22 e ∷ []) x.row x.place)
