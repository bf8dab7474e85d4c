-- The promise of the call on equal vertices. Assumes nothing.
use Rattle.std.specs.Prelude.{List, ℕ}
use Rattle.refusal.specs.document.Table.{Outcome, Gives}
use Rattle.limits.specs.document.Limits.{size}
use Rattle.zurkhovel.specs.document.InEdition.{edge_table}
use Rattle.form.specs.document.Form.{IsCentred}
use Rattle.orbits.specs.document.Carried.{ClassesOf}

-- the classes of the vertices in the numbering of the centred code: one for two exactly when some renumbering of the skeleton onto itself, keeping
-- all edges, carries one to the other
abbrev pub EqualVertices : ℕ → ℕ → List ℕ → List ℕ → List ℕ → Outcome ℕ → Type 0
EqualVertices e N E old new o = Gives (edge_table e size N E 1) (λ l. (c : List ℕ) × IsCentred N E c × ClassesOf c l) old new o
