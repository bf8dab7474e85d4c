-- Document 02, wish 7: "an all-carbon skeleton keeps its old codes". Where every vertex is carbon a mark is three times the digit, and the rooted code over atoms has the
-- digits of the plain one. What rests on `atoms` is in `proofs.Carbon`. Assumes nothing.
use Rattle.std.specs.Prelude.{ℕ, ◌*◌}
use Rattle.skeleton.specs.document.Atom.{Atom, C}

-- every vertex is carbon
abbrev pub carbon : ℕ → Atom
carbon v = C

-- the mark of a carbon of this digit
abbrev pub carbon_mark : ℕ → ℕ
carbon_mark k = 3 * k
