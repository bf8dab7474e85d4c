-- Maps that are renumberings: no row refuses them. Assumes nothing.
use Rattle.std.specs.Prelude.{◌≡◌, refl, ℕ, zero, suc, ◌+◌, ◌-◌, ◌*◌, ◌≤◌, ◌<◌, length, get_or}
use Rattle.std.proofs.Common.{sym, ap₂, ◌∙◌, subst, ⊎_elim, arith}
use mathlib.Core.List.Memᴰ
use mathlib.Core.List.{List, [], ◌∷◌, Memᴰ}
use Rattle.laws.specs.Perms.{perm_in}
use Rattle.refusal.specs.document.Table.{Clear}
use Rattle.refusal.specs.Laws.{clear_one, clear_both}
use Rattle.skeleton.specs.document.Skeleton.{arcs, IsTree, Renumbering}
use Rattle.skeleton.specs.Renumber.{carry, one_to_one}
use Rattle.edge_list.specs.document.Edges.{Edge, first_end, second_end}
use Rattle.edge_list.specs.Prefix.{one_in, other_in}
use Rattle.renumber.specs.document.Map.{image, EdgeSent, row5_map, row18, row19, map_rows}

-- an edge is an arc from either of its ends
abbrev BothWays : List ℕ → ℕ → ℕ → Type 0
BothWays E a b = Memᴰ (a, b) (arcs E) × Memᴰ (b, a) (arcs E)

arcs-at : (k : ℕ) (E : List ℕ) → 2 * k + 1 < length E → BothWays E (get_or E (2 * k) 0) (get_or E (2 * k + 1) 0)
unfolding arcs
arcs-at k [] h = absurd (let z : ⊥ = omega arith in z)
arcs-at k (a ∷ []) h = absurd (let z : ⊥ = omega arith in z)
arcs-at zero (a ∷ b ∷ E) h = (Memᴰ.head refl, Memᴰ.tail (Memᴰ.head refl))
arcs-at (suc k) (a ∷ b ∷ E) h =
    let e : 2 * suc k ≡ suc (suc (2 * k)) = omega arith in
    let f : 2 * suc k + 1 ≡ suc (suc (2 * k + 1)) = omega arith in
    let (x, y) = arcs-at k E (omega arith) in
    rw (f, e) (Memᴰ.tail (Memᴰ.tail x), Memᴰ.tail (Memᴰ.tail y))

pub edge_arcs : (E : List ℕ) (p : ℕ) → Edge E p → BothWays E (first_end E p) (second_end E p)
edge_arcs E p h = arcs-at (p - 1) E (omega (arith, h.0, h.1))

module _ {N : ℕ} {E F : List ℕ} (t : IsTree N E) (ρ : Renumbering N E F) (w : List ℕ) (long : length w ≡ N) (is : (v : ℕ) → 1 ≤ v → v ≤ N → image w v ≡ ρ.to v) where
  carried : (p : ℕ) → Edge E p → EdgeSent E F w p
  carried p h =
      let (a, b) = t.inside (first_end E p) (one_in E p h) in
      let (c, d) = t.inside (second_end E p) (other_in E p h) in
      subst (λ e. Memᴰ e (arcs F)) (ap₂ (λ (x y : ℕ). (x, y)) (sym (is (first_end E p) a b)) (sym (is (second_end E p) c d)))
      (perm_in ρ.carries (Memᴰ.map (carry ρ.to) (edge_arcs E p h).0))

  -- a renumbering, as a map
  pub map_clear : Clear (map_rows N E N F w)
  map_clear =
      clear_both (clear_one {r = row5_map N N w} (λ p a. a.1 (refl, long)))
      (clear_both
      (clear_one {r = row18 N w} (λ p ((a, b), d).
      let i : (1 ≤ p) × (p ≤ N) = (a, omega arith) in
      let (low, high) = ρ.to_in p i.0 i.1 in
      let e = is p i.0 i.1 in
      ⊎_elim (λ o. ⊎_elim (λ z. let n : ⊥ = omega arith in n) (λ z. let n : ⊥ = omega arith in n) o) (λ (q, l, m, f).
      let j : (1 ≤ q) × (q ≤ N) = (l, omega arith) in
      let g : q ≡ p = one_to_one N E F ρ q p j i (sym (is q j.0 j.1) ∙ f ∙ e) in
      let n : ⊥ = omega arith in n) d))
      (clear_one {r = row19 E F w} (λ p (a, n). n (carried p a))))
