-- Maps between lists whose vertices have labels, atoms for instance: no row refuses one just where it is a renumbering that keeps the labels
-- (`kept_exactly`); the one that is handed out is such a map, and there is one. Where every vertex is carbon, both are those of plain lists.
--
-- In order: the rows; what is accepted; the map that is handed out; carbon. Assumes nothing.
use Rattle.std.specs.Prelude.{◌≡◌, refl, ◌↔◌, List, map, ℕ, ◌≤◌, ◌<◌, length, get_or, take}
use Rattle.std.proofs.Common.{sym, ap, ◌∙◌, inl, inr, ⊎_elim, arith}
use Rattle.laws.specs.Rising.{lists_back}
use Rattle.refusal.specs.document.Table.{Clear, Writes}
use Rattle.refusal.specs.Laws.{never, others, clear_one, clear_both, Alike}
use Rattle.skeleton.specs.document.Skeleton.{IsTree, rooted, Renumbering}
use Rattle.skeleton.specs.document.Label.{Marks, rootedₗ, Keeps}
use Rattle.skeleton.specs.document.AtomMarks.{atoms}
use Rattle.skeleton.specs.Carbon.{carbon, carbon_mark}
use Rattle.skeleton.proofs.Carbon.{carbon-marks, all-carbon}
use Rattle.numbering.specs.Numbering.{Orders}
use Rattle.numbering.specs.document.Order.{mark_at, orderₗ}
use Rattle.numbering.proofs.Numbers.{orderₗ-numbers, orders_besideₗ}
use Rattle.numbering.proofs.Rewritten.{order-carbon}
use Rattle.form.specs.Labelled.{CentredRootₗ}
use Rattle.form.specs.Root.{root_inside}
use Rattle.form.specs.Rewritten.{root-carbon}
use Rattle.renumber.specs.document.Map.{image, row5_map, row18, row19, map_rows, Renumbers, HandedOut}
use Rattle.renumber.specs.document.Kept.{row18-kept, kept_rows, KeepsAtoms, HandedKept}
use Rattle.renumber.specs.Parts.{Listed, Placed}
use Rattle.renumber.specs.Handing.{Covers, one-handed_by, some_handed_by, placed_handed_by, listed_by}
use Rattle.renumber.specs.Theorems.{map_exactly}

-- ---- the rows

module _ {L : Type 0} (l k : ℕ → L) (N : ℕ) (E : List ℕ) (P : ℕ) (F w : List ℕ) where
  -- a map that is not refused without labels, and whose entries have the labels of their vertices
  pub kept_clear : Clear (map_rows N E P F w) → KeepsAtoms l k w → Clear (kept_rows l k N E P F w)
  kept_clear c f =
      clear_both (clear_one {r = row5_map N P w} (never c))
      (clear_both (clear_one {r = row18-kept l k N w} (λ p. ⊎_elim (never (others c) p) (λ ((a, b), n). n (f p a b))))
      (clear_one {r = row19 E F w} (never (others (others c)))))

  -- and back
  pub clear_kept : ((a b : L) → Dec (a ≡ b)) → Clear (kept_rows l k N E P F w) → Clear (map_rows N E P F w) × KeepsAtoms l k w
  clear_kept same? c = (
    clear_both (clear_one {r = row5_map N P w} (never c))
        (clear_both (clear_one {r = row18 N w} (λ p a. never (others c) p (inl a))) (clear_one {r = row19 E F w} (never (others (others c))))),
    λ v a b. step v a b (same? (k (image w v)) (l v)),
  )
    where
      step : (v : ℕ) → 1 ≤ v → v ≤ length w → Dec (k (image w v) ≡ l v) → k (image w v) ≡ l v
      step v a b (yes e) = e
      step v a b (no n) = absurd (never (others c) v (inr ((a, b), n)))

-- ---- what is accepted

-- No row refuses a map between two trees with labels just where they have equally many vertices and the map is a renumbering that carries the one to the
-- other and keeps the labels.
pub kept_exactly : (M : Marks) → ((a b : M.Label) → Dec (a ≡ b)) → (l k : ℕ → M.Label) (N P : ℕ) (E F w : List ℕ) → IsTree N E → IsTree P F
    → Clear (kept_rows l k N E P F w) ↔ (Renumbers N E P F w × KeepsAtoms l k w)
kept_exactly M same? l k N P E F w t u =
    let (there, back) = map_exactly N P E F w t u in (
      λ c. let (m, f) = clear_kept l k N E P F w same? c in (there m, f),
      λ (r, f). kept_clear l k N E P F w (back r) f,
    )

-- ---- the map that is handed out

module _ (M : Marks) (l k : ℕ → M.Label) where
  -- the order of the vertices from the root on
  coversₗ : {N r : ℕ} {E : List ℕ} → IsTree N E → CentredRootₗ M N E l r → Covers N (orderₗ M l N E r)
  coversₗ {N} {r} {E} t x =
      let (a, b) = root_inside t x in
      let o : Orders M l N E r (mark_at M l E r) (orderₗ M l N E r) = orderₗ-numbers M l N E r t a b in
      record { all = o.all; once = o.once; within = o.within; has = o.has }

  -- it is one
  pub one-handed-kept : {N P : ℕ} {E F : List ℕ} → IsTree N E → (w z : List ℕ) → HandedKept M l k N E P F w → HandedKept M l k N E P F z → w ≡ z
  one-handed-kept t w z x y = one-handed_by (λ r c. coversₗ t c) (λ w r. r.0.1) w z x y

  pub listed_kept : {N r : ℕ} {E : List ℕ} → IsTree N E → CentredRootₗ M N E l r → (o : List ℕ) → take N o ≡ orderₗ M l N E r → Listed N o
  listed_kept t x = listed_by (coversₗ t x)

  module _ {N : ℕ} {E F : List ℕ} {r q : ℕ} (t : IsTree N E) (u : IsTree N F) (x : CentredRootₗ M N E l r) (y : CentredRootₗ M N F k q) (e : rootedₗ M l N E r ≡ rootedₗ M k N F q) where
    besideₗ : (ρ : Renumbering N E F) × (ρ.to r ≡ q) × Keeps M N E F l k ρ × ((i : ℕ) → i < N → ρ.to (get_or (orderₗ M l N E r) i 0) ≡ get_or (orderₗ M k N F q) i 0)
    besideₗ = let (a, b) = root_inside t x in let (c, d) = root_inside u y in orders_besideₗ M N E F r q l k t a b u c d e

    -- as a map it is a renumbering that keeps the labels
    fine : (ρ : Renumbering N E F) → Keeps M N E F l k ρ → (w : List ℕ) → length w ≡ N → ((v : ℕ) → 1 ≤ v → v ≤ N → image w v ≡ ρ.to v) → Renumbers N E N F w × KeepsAtoms l k w
    fine ρ keeps w long is = ((refl, long, ρ, is), λ v a b. ap k (is v a (omega arith)) ∙ keeps v a (omega arith))

    abbrev Right : List ℕ → Type 0
    Right w = Renumbers N E N F w × KeepsAtoms l k w

    -- there is one
    pub some_handed_kept : (w : List ℕ) × HandedKept M l k N E N F w
    some_handed_kept =
        let (ρ, root, keeps, at) = besideₗ in
        some_handed_by (rootedₗ M l N E) (rootedₗ M k N F) (orderₗ M l N E) (orderₗ M k N F) Right (coversₗ t x) x y e ρ at (fine ρ keeps)

    -- what a program wrote, which had the order in o and the other's in p
    pub placed_handed_kept :
        (o p old : List ℕ) {new : List ℕ} → take N o ≡ orderₗ M l N E r → take N p ≡ orderₗ M k N F q → N ≤ length old → Placed N o p old new N
        → Writes (HandedKept M l k N E N F) old N new
    placed_handed_kept =
        let (ρ, root, keeps, at) = besideₗ in
        placed_handed_by (rootedₗ M l N E) (rootedₗ M k N F) (orderₗ M l N E) (orderₗ M k N F) Right (coversₗ t x) x y e ρ at (fine ρ keeps)

-- ---- carbon

-- where every vertex is carbon a map is refused as one between plain lists
pub kept-carbon : (N : ℕ) (E : List ℕ) (P : ℕ) (F w : List ℕ) → Alike (kept_rows carbon carbon N E P F w) (map_rows N E P F w)
kept-carbon N E P F w = record { rows = (refl, λ p. (λ h. h, λ h. h), (refl, λ p. (⊎_elim (λ h. h) (λ (e, n). absurd (n refl)), inl), (refl, λ p. (λ h. h, λ h. h), tt))) }

-- and the one that is handed out is the same
pub handed-carbon : (N : ℕ) (E : List ℕ) (P : ℕ) (F w : List ℕ) → HandedKept atoms carbon carbon N E P F w ↔ HandedOut N E P F w
handed-carbon N E P F w = (
  λ x. record {
    root = x.root;
    rule = (root-carbon N E x.root).0 x.rule;
    root₂ = x.root₂;
    rule₂ = (root-carbon P F x.root₂).0 x.rule₂;
    codes = lists_back carbon_mark carbon-marks.rising (rooted N E x.root) (rooted P F x.root₂) (sym (all-carbon N E x.root) ∙ x.codes ∙ all-carbon P F x.root₂);
    sends = rw (order-carbon N E x.root, order-carbon P F x.root₂) at x.sends;
    renumbers = x.renumbers.0;
  },
  λ x. record {
    root = x.root;
    rule = (root-carbon N E x.root).1 x.rule;
    root₂ = x.root₂;
    rule₂ = (root-carbon P F x.root₂).1 x.rule₂;
    codes = all-carbon N E x.root ∙ ap (map carbon_mark) x.codes ∙ sym (all-carbon P F x.root₂);
    sends = rw (order-carbon N E x.root, order-carbon P F x.root₂) x.sends;
    renumbers = (x.renumbers, λ v a b. refl);
  },
)
