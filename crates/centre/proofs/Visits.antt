-- The neighbours of a vertex one after another: what `centre::visit` knows when it has looked at j of them. Assumes nothing.
use mathlib.Core.Path.{◌≡◌, sym, ◌∙◌}
use mathlib.Core.Logic.{⊎_elim}
use mathlib.Core.List.Memᴰ
use mathlib.Core.List.{List, ◌∷◌, [], Memᴰ}
use Prim.Native.Nat.{ℕ, suc, ◌≤◌, ◌<◌}
use native.Mathlib.Omega.{arith}
use lib.ListN.{length, get_or, take, set}
use lib.Seq.{get_or-set_other, take-suc, take-length}
use Rattle.limits.specs.document.Limits.{size}
use Rattle.laws.specs.Places.{at_in}
use Rattle.skeleton.specs.document.Skeleton.{arcs}
use Rattle.skeleton.specs.Walks.{arc_end}
use Rattle.centre.specs.Walking.{Ground, Spread, Next}
use Rattle.centre.proofs.Found.{room, old, newest, found, done}

-- v is still the next to look at, b are found, and the first j of its row are among them
pub record Part {N s : ℕ} {E : List ℕ} (g : Ground N E s) (row o up : List ℕ) (v h b j : ℕ) : Type 0 where
  pub spread : Spread g o up h b
  pub waits : h < b
  pub is : v ≡ get_or o h 0
  pub got : (w : ℕ) → Memᴰ w (take j row) → Memᴰ w (take b o)

module _ {N s : ℕ} {E : List ℕ} (g : Ground N E s) {row o₀ up₀ : List ℕ} {v h e : ℕ} (n : Next g row o₀ up₀ v h e) where
  pub part_none : Part g row o₀ up₀ v h e 0
  part_none = record { spread = n.spread; waits = n.waits; is = n.is; got = λ w k. absurd (Memᴰ.not-nil k) }

  pub part-all : {o up : List ℕ} {b : ℕ} → Part g row o up v h b (length row) → Spread g o up (suc h) b
  part-all p = done g p.spread p.waits (λ w k. p.got w (rw (take-length row) (n.all w (rw (← p.is) at k))))

  module _ (j : ℕ) (l : j < length row) {o up : List ℕ} {b : ℕ} (p : Part g row o up v h b j) where
    part_arc : Memᴰ (v, get_or row j 0) (arcs E)
    part_arc = n.arc (get_or row j 0) (at_in row j 0 l)

    pub part_inside : (1 ≤ get_or row j 0) × (get_or row j 0 ≤ size)
    part_inside = omega (arith, g.tree.inside (get_or row j 0) (arc_end E part_arc), g.small)

    one_more : (q : List ℕ) → ((w : ℕ) → Memᴰ w (take j row) → Memᴰ w q) → Memᴰ (get_or row j 0) q → (w : ℕ) → Memᴰ w (take (suc j) row) → Memᴰ w q
    one_more q old new w k = ⊎_elim (old w) (λ (i : Memᴰ w (get_or row j 0 ∷ [])). rw (Memᴰ.eq_of_singleton i) new) (Memᴰ.append_cases (take j row) (rw (take-suc row j 0 (omega arith)) at k))

    -- one that is found already
    pub part-known : (get_or up (get_or row j 0) 0 ≡ 0 → ⊥) → Part g row o up v h b (suc j)
    part-known z =
        let i = g.tree.inside (get_or row j 0) (arc_end E part_arc) in
        record { spread = p.spread; waits = p.waits; is = p.is; got = one_more (take b o) p.got (p.spread.known (get_or row j 0) i.0 i.1 z) }

    -- one that is not
    module _ (z : get_or up (get_or row j 0) 0 ≡ 0) where
      pub part_room : b < size
      part_room = omega (arith, room g p.spread (get_or row j 0) v p.waits p.is part_arc z, g.small)

      pub part_new : Part g row (set o b (get_or row j 0)) (set up (get_or row j 0) v) v h (suc b) (suc j)
      part_new = record {
        spread = found g p.spread (get_or row j 0) v p.waits p.is part_arc z;
        waits = omega (arith, p.waits);
        is = p.is ∙ sym (get_or-set_other o b h (get_or row j 0) 0 (λ q. omega (arith, p.waits)));
        got = one_more (take (suc b) (set o b (get_or row j 0))) (λ w k. old g p.spread (get_or row j 0) v p.waits p.is part_arc z (p.got w k)) (newest g p.spread (get_or row j 0) v p.waits p.is part_arc z);
      }
