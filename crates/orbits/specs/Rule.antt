-- The rule in the numbering of a centred code: two vertices other than the root are carried to one another exactly when their parents are and
-- their subtree codes are equal (`carried_parents`); the root is carried to another vertex exactly when that is a child of its own whose code is
-- the rest of the code (`carried-root`). Skeletons that turn over are no case of their own in the first. Assumes nothing.
use Rattle.std.specs.Prelude.{◌≡◌, ◌↔◌, List, ℕ, suc, ◌≤◌, length}
use Rattle.std.proofs.Common.{ap, sym, ◌∙◌, subst, ⊎_elim, arith}
use Rattle.digit_code.specs.document.Code.{decode}
use Rattle.skeleton.specs.document.Skeleton.{arcs}
use Rattle.skeleton.specs.document.Label.{Marks, joinₗ, codeₗ, rootedₗ, digits, labels}
use Rattle.skeleton.specs.Label.{IsRootedₗ}
use Rattle.skeleton.specs.Walks.{turn}
use Rattle.form.specs.document.Labelled.{IsCentredₗ}
use Rattle.numbering.specs.document.Decoded.{parent}
use Rattle.orbits.specs.Joins.{far_end, near_side, two-sides}
use Rattle.orbits.specs.Sides.{Edge, edge}
use Rattle.orbits.specs.Parents.{subtreeₗ, tree_ofₗ, parent_lowₗ, parent_arc, side-code}
use Rattle.orbits.specs.document.Carried.{Carriedₗ}
use Rattle.orbits.specs.Carried.{carried-codes, root_moves, parent-carried}
use Rattle.orbits.specs.Half.{restₗ, others-rest}

module _ (M : Marks) (c : List ℕ) (x : IsRootedₗ M c) where
  abbrev N : ℕ
  N = length c

  abbrev ds : List ℕ
  ds = digits M c

  abbrev E : List ℕ
  E = decode ds

  abbrev l : ℕ → M.Label
  l = labels M c

  -- the rooted code at a vertex
  abbrev at : ℕ → List ℕ
  at = rootedₗ M l N E

  -- the edge from a vertex's parent to the vertex
  above : (v : ℕ) → 2 ≤ v → v ≤ N → Edge M l N E (parent ds v) v
  above v a b = edge M l N E (tree_ofₗ M c x) (parent ds v) v (turn E (parent_arc M c x v a b))

  above-side : (v : ℕ) (a : 2 ≤ v) (b : v ≤ N) → joinₗ M (l v) (above v a b).D ≡ subtreeₗ M c v
  above-side v a b = sym ((above v a b).side (suc N) (omega arith)) ∙ side-code M c x v (omega arith) b

  codes_at : (u v : ℕ) → 1 ≤ u → u ≤ N → 1 ≤ v → v ≤ N → Carriedₗ M N E l u v ↔ (at u ≡ at v)
  codes_at = carried-codes M N E l (tree_ofₗ M c x)

  module _ (z : IsCentredₗ M N E l c) where
    module _ (u v : ℕ) (a : 2 ≤ u) (b : u ≤ N) (g : 2 ≤ v) (h : v ≤ N) where
      abbrev e : Edge M l N E (parent ds u) u
      e = above u a b

      abbrev f : Edge M l N E (parent ds v) v
      f = above v g h

      parents : Carriedₗ M N E l (parent ds u) (parent ds v) ↔ (at (parent ds u) ≡ at (parent ds v))
      parents = codes_at (parent ds u) (parent ds v) (omega (arith, parent_lowₗ M c x u a b)) (omega (arith, parent_lowₗ M c x u a b)) (omega (arith, parent_lowₗ M c x v g h)) (omega (arith, parent_lowₗ M c x v g h))

      ends : Carriedₗ M N E l u v ↔ (at u ≡ at v)
      ends = codes_at u v (omega arith) b (omega arith) h

      pub carried_parents : Carriedₗ M N E l u v ↔ (Carriedₗ M N E l (parent ds u) (parent ds v) × (subtreeₗ M c u ≡ subtreeₗ M c v))
      carried_parents = (
        λ (ρ, q, m).
            let k : Carriedₗ M N E l (parent ds u) (parent ds v) = (ρ, parent-carried M c x z ρ u a b (omega arith) ∙ ap (parent ds) q, m) in
            let side = near_side M e.ones e.others f.ones f.others (l (parent ds u)) (l u) (l (parent ds v)) (l v)
            (sym e.upper ∙ parents.0 k ∙ f.upper) (sym e.lower ∙ ends.0 (ρ, q, m) ∙ f.lower) in
            (k, sym (above-side u a b) ∙ side ∙ above-side v g h),
        λ (k, s).
            let side : joinₗ M (l u) e.D ≡ joinₗ M (l v) f.D = above-side u a b ∙ s ∙ sym (above-side v g h) in
            ends.1 (e.lower
            ∙ far_end M e.ones e.others f.ones f.others (l (parent ds u)) (l u) (l (parent ds v)) (l v) (sym e.upper ∙ parents.0 k ∙ f.upper) side
            ∙ sym f.lower),
      )

    module _ (v : ℕ) (a : 2 ≤ v) (b : v ≤ N) where
      -- where v is a child of the root, the two halves are equal exactly when the codes at the root and at v are
      halves : parent ds v ≡ 1 → (at 1 ≡ at v) ↔ (subtreeₗ M c v ≡ restₗ M c v)
      halves p =
          let e : Edge M l N E 1 v = subst (λ u. Edge M l N E u v) p (above v a b) in
          let s : joinₗ M (l v) e.D ≡ subtreeₗ M c v = sym (e.side (suc N) (omega arith)) ∙ ap (λ u. codeₗ M l (suc N) (arcs E) u v) (sym p) ∙ side-code M c x v (omega arith) b in
          let r : joinₗ M (l 1) e.G ≡ restₗ M c v = others-rest M c x v a b p e s in
          let (there, back) = two-sides M e.ones e.others (l 1) (l v) in (
            λ q. sym s ∙ there (sym e.upper ∙ q ∙ e.lower) ∙ r,
            λ q. e.upper ∙ back (s ∙ q ∙ sym r) ∙ sym e.lower,
          )

      pub carried-root : Carriedₗ M N E l 1 v ↔ ((parent ds v ≡ 1) × (subtreeₗ M c v ≡ restₗ M c v))
      carried-root =
          let (there, back) = codes_at 1 v (omega arith) (omega arith) (omega arith) b in (
            λ (ρ, q, m). ⊎_elim
                (λ s. let w : ⊥ = omega arith in absurd w)
                (λ s. let p : parent ds v ≡ 1 = ap (parent ds) (sym q) ∙ s.1 in (p, (halves p).0 (there (ρ, q, m))))
                (root_moves M c x z ρ),
            λ (p, s). back ((halves p).1 s),
          )
