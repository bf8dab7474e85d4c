-- Document 02, wish 7, the promise of the call on equal vertices: "Vertex classes and renumberings must keep the atoms too." Assumes nothing.
use Rattle.std.specs.Prelude.{List, ℕ}
use Rattle.refusal.specs.document.Table.{Outcome, Gives}
use Rattle.limits.specs.document.Limits.{size, valence}
use Rattle.skeleton.specs.document.Atom.{atom_at}
use Rattle.skeleton.specs.document.AtomMarks.{atoms}
use Rattle.edge_list.specs.document.Letters.{letter_rows}
use Rattle.form.specs.document.Labelled.{IsCentredₗ}
use Rattle.orbits.specs.document.Carried.{ClassesOfₗ}

-- the classes of the vertices in the numbering of the centred code: one for two exactly when some renumbering of the skeleton onto itself, keeping all edges and atoms, carries one to
-- the other
abbrev pub NamedEqualVertices : ℕ → List ℕ → List ℕ → List ℕ → List ℕ → Outcome ℕ → Type 0
NamedEqualVertices N E s old new o =
    Gives (letter_rows size valence N E 1 s) (λ l. (c : List ℕ) × IsCentredₗ atoms N E (atom_at s) c × ClassesOfₗ atoms c l) old new o
