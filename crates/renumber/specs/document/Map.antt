-- Document 02, wish 4: "Where the verdict is yes, hand out such a renumbering", and "A partner's own renumbering is accepted exactly if it carries every
-- edge of the first list to an edge of the second and uses each number once."
--
-- A renumbering is lent and handed out as a map: bytes, of which entry v is the number in the second list of vertex v of the first. In order: the map; the
-- rows 5, 18 and 19 of one that is lent, N vertices with the edges E and P vertices with the edges F; what it is to be a renumbering; the one that is handed out. Every row says something
-- of every input. That no row refuses a map just where it is a renumbering is `map_exactly`. Assumes nothing.
use Rattle.std.specs.Prelude.{◌≡◌, ◌⊎◌, ℕ, ◌-◌, ◌≤◌, ◌<◌, length, get_or}
use mathlib.Core.List.{List, [], ◌∷◌, Memᴰ}
use Rattle.refusal.specs.document.Table.{Row, Outside}
use Rattle.skeleton.specs.document.Skeleton.{arcs, rooted, Renumbering}
use Rattle.numbering.specs.document.Order.{order}
use Rattle.edge_list.specs.document.Edges.{Edge, first_end, second_end}
use Rattle.form.specs.document.Root.{RootOf}

-- the map has an entry number p
abbrev pub Entry : List ℕ → ℕ → Type 0
Entry w p = (1 ≤ p) × (p ≤ length w)

-- where the map sends vertex v: its entry v
abbrev pub image : List ℕ → ℕ → ℕ
image w v = get_or w (v - 1) 0

-- an earlier entry is what entry p is
abbrev pub Repeats : List ℕ → ℕ → Type 0
Repeats w p = (q : ℕ) × (1 ≤ q) × (q < p) × (image w q ≡ image w p)

-- edge p of E is sent to an edge of F
abbrev pub EdgeSent : List ℕ → List ℕ → List ℕ → ℕ → Type 0
EdgeSent E F w p = Memᴰ (image w (first_end E p), image w (second_end E p)) (arcs F)

-- 5: the lists have different sizes, or the map has not an entry for each vertex
abbrev pub row5_map : ℕ → ℕ → List ℕ → Row
row5_map N P w = record { number = 5; applies = λ p. (p ≡ 0) × ((N ≡ P) × (length w ≡ N) → ⊥) }

-- 18: an entry is outside 1 to N, or already used by an earlier entry
abbrev pub row18 : ℕ → List ℕ → Row
row18 N w = record { number = 18; applies = λ p. Entry w p × (Outside N (image w p) ⊎ Repeats w p) }

-- 19: an edge of the first list is not carried
abbrev pub row19 : List ℕ → List ℕ → List ℕ → Row
row19 E F w = record { number = 19; applies = λ p. Edge E p × (EdgeSent E F w p → ⊥) }

-- what is refused of a map
abbrev pub map_rows : ℕ → List ℕ → ℕ → List ℕ → List ℕ → List Row
map_rows N E P F w = row5_map N P w ∷ row18 N w ∷ row19 E F w ∷ []

-- the lists have equally many vertices, and w is a renumbering that carries the first onto the second, entry by entry
abbrev pub Renumbers : ℕ → List ℕ → ℕ → List ℕ → List ℕ → Type 0
Renumbers N E P F w = (N ≡ P) × (length w ≡ N) × (ρ : Renumbering N E F) × ((v : ℕ) → 1 ≤ v → v ≤ N → image w v ≡ ρ.to v)

-- A map that is handed out: it is such a renumbering as R says, and sends the vertex of each digit of the first list's centred code to that of the same
-- digit of the second's. Each list is numbered from its own root on (`RootOf`). `at v` is the first list's code at the root v and `ord v` its vertices in the
-- order of that code's digits; `at₂` and `ord₂` are the second's.
pub record HandedBy (N : ℕ) (E : List ℕ) (P : ℕ) (F : List ℕ) (at at₂ ord ord₂ : ℕ → List ℕ) (R : List ℕ → Type 0) (w : List ℕ) : Type 0 where
  pub root : ℕ
  pub rule : RootOf N E at root
  pub root₂ : ℕ
  pub rule₂ : RootOf P F at₂ root₂
  pub codes : at root ≡ at₂ root₂
  pub sends : (i : ℕ) → i < N → image w (get_or (ord root) i 0) ≡ get_or (ord₂ root₂) i 0
  pub renumbers : R w

-- the map that is handed out, a renumbering of the first list onto the second: of siblings with equal codes the one whose edge is listed first goes first (`order`)
abbrev pub HandedOut : ℕ → List ℕ → ℕ → List ℕ → List ℕ → Type 0
HandedOut N E P F w = HandedBy N E P F (rooted N E) (rooted P F) (order N E) (order P F) (Renumbers N E P F) w
