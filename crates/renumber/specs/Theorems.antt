-- The theorems of maps, each under a plain sentence and proved by a name from elsewhere. Assumes nothing.
use Rattle.std.specs.Prelude.{◌≡◌, refl, ◌↔◌, List, ℕ}
use Rattle.std.proofs.Common.{sym, subst}
use Rattle.refusal.specs.document.Table.{Clear}
use Rattle.refusal.specs.document.Lowest.{LowestWins}
use Rattle.refusal.proofs.Lowest.{lowest_number}
use Rattle.skeleton.specs.document.Skeleton.{IsTree}
use Rattle.renumber.specs.document.Map.{map_rows, Renumbers, HandedOut}
use Rattle.renumber.specs.Accepted.{map_clear}
use Rattle.renumber.specs.Exactly.{map_sizes, map_renumbers}
use Rattle.renumber.specs.Handing.{one-handed}

-- No row refuses a map between two trees just where they have equally many vertices and the map is a renumbering that carries the one to the other.
pub map_exactly : (N P : ℕ) (E F w : List ℕ) → IsTree N E → IsTree P F → Clear (map_rows N E P F w) ↔ Renumbers N E P F w
map_exactly N P E F w t u = (forth, back)
  where
    forth : Clear (map_rows N E P F w) → Renumbers N E P F w
    forth c =
        let (e, l) = map_sizes N P w c in
        let (ρ, f) = map_renumbers t (rw (← e) at u) w (rw (← e) at c) in
        (e, l, ρ, λ v a b. sym (f v))

    back : Renumbers N E P F w → Clear (map_rows N E P F w)
    back (e, l, ρ, f) = subst (λ n. Clear (map_rows N E n F w)) e (map_clear t ρ w l f)

-- What refuses a map is the lowest number that applies, at its first place.
pub map_lowest : (N P : ℕ) (E F w : List ℕ) → LowestWins (map_rows N E P F w)
map_lowest N P E F w = lowest_number refl

-- The map that is handed out is one.
pub one_map : (N P : ℕ) (E F w z : List ℕ) → IsTree N E → HandedOut N E P F w → HandedOut N E P F z → w ≡ z
one_map N P E F w z t = one-handed t w z
