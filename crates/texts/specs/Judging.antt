-- The rows for the parts of a line, as the proofs judge them apart from their line; rows about some of the parts; no rows. Assumes nothing.
use Rattle.std.specs.Prelude.{◌≡◌, refl, List, [], ◌∷◌, map, ℕ}
use Rattle.std.proofs.Common.{ap}
use Rattle.refusal.specs.document.Table.{Row, Clear}
use Rattle.texts.specs.document.Text.{PartRow, through}

-- the row for the parts q
abbrev pub judging : {F : Type 0} → F → PartRow F → Row
judging q r = record { number = r.number; applies = r.applies q }

-- what is refused of the parts q
abbrev pub judged : {F : Type 0} → List (PartRow F) → F → List Row
judged rows q = map (judging q) rows

-- rows about some of the parts judge these
pub judged-through : {F G : Type 0} (g : G → F) (rows : List (PartRow F)) (q : G) → judged (map (through g) rows) q ≡ judged rows (g q)
judged-through g [] q = refl
judged-through g (r ∷ rows) q = ap (λ (rs : List Row). judging (g q) r ∷ rs) (judged-through g rows q)

-- a table of no rows
pub none : Clear {K = ℕ} []
none = record { nowhere = λ k p a. a }
