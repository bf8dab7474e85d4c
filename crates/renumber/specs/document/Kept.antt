-- Document 02, wish 7: "Vertex classes and renumberings must keep the atoms too." The rows of a map between two lists whose vertices have atoms, and the
-- map that is handed out.
--
-- l v is the atom of vertex v of the first list, k v that of the second's. A map that puts an atom on another one is refused with 18 at the entry. That no
-- row refuses a map just where it is a renumbering that keeps the atoms is `kept_exactly`. Assumes nothing.
use Rattle.std.specs.Prelude.{◌≡◌, ◌⊎◌, List, [], ◌∷◌, ℕ, ◌≤◌, length}
use Rattle.refusal.specs.document.Table.{Row}
use Rattle.skeleton.specs.document.Label.{Marks, rootedₗ}
use Rattle.numbering.specs.document.Order.{orderₗ}
use Rattle.renumber.specs.document.Map.{Entry, image, row5_map, row18, row19, Renumbers, HandedBy}

-- 18: an entry is outside 1 to N, or already used by an earlier entry, or the atom there is another
abbrev pub row18-kept : {L : Type 0} → (ℕ → L) → (ℕ → L) → ℕ → List ℕ → Row
row18-kept l k N w = record { number = 18; applies = λ p. (row18 N w).applies p ⊎ (Entry w p × (k (image w p) ≡ l p → ⊥)) }

-- what is refused of a map
abbrev pub kept_rows : {L : Type 0} → (ℕ → L) → (ℕ → L) → ℕ → List ℕ → ℕ → List ℕ → List ℕ → List Row
kept_rows l k N E P F w = row5_map N P w ∷ row18-kept l k N w ∷ row19 E F w ∷ []

-- the map w sends each vertex to one with its atom
abbrev pub KeepsAtoms : {L : Type 0} → (ℕ → L) → (ℕ → L) → List ℕ → Type 0
KeepsAtoms l k w = (v : ℕ) → 1 ≤ v → v ≤ length w → k (image w v) ≡ l v

-- the map that is handed out: a renumbering of the first list onto the second that keeps the atoms
abbrev pub HandedKept : (M : Marks) → (ℕ → M.Label) → (ℕ → M.Label) → ℕ → List ℕ → ℕ → List ℕ → List ℕ → Type 0
HandedKept M l k N E P F w = HandedBy N E P F (rootedₗ M l N E) (rootedₗ M k P F) (orderₗ M l N E) (orderₗ M k P F) (λ z. Renumbers N E P F z × KeepsAtoms l k z) w
