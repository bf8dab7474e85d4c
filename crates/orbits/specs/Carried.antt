-- Vertices that a renumbering of the skeleton onto itself, keeping its labels, carries to one another, in the numbering of a centred code.
--
-- In order: what it is, and that it is to have equal rooted codes; the two middles of a path are joined; where the root goes; a parent goes
-- where its child goes. Assumes nothing.
use Rattle.std.specs.Prelude.{◌≡◌, refl, ◌↔◌, ◌⊎◌, ℕ, zero, suc, ◌-◌, ◌/◌, ◌≤◌, ◌<◌, length, get_or}
use Rattle.std.proofs.Common.{ap, sym, ◌∙◌, subst, inl, inr, ⊎_elim, arith}
use mathlib.Core.List.Memᴰ
use mathlib.Core.List.{List, [], ◌∷◌, Memᴰ}
use Rattle.std.proofs.Math.Decide.{ℕ_discrete}
use Rattle.laws.specs.Perms.{perm_in}
use Rattle.digit_code.specs.document.Code.{decode}
use Rattle.skeleton.specs.document.Skeleton.{Arc, arcs, IsTree, Renumbering}
use Rattle.skeleton.specs.document.Label.{Marks, rootedₗ, digits, labels}
use Rattle.skeleton.specs.Label.{IsRootedₗ}
use Rattle.skeleton.specs.Base.{base}
use Rattle.skeleton.specs.Renumber.{carry, one_to_one}
use Rattle.skeleton.specs.General.{decode-code, equal-codes}
use Rattle.skeleton.specs.Walks.{turn}
use Rattle.longest_path.specs.document.Path.{Joined, middle₁, middle₂, IsCentre}
use Rattle.longest_path.specs.Theorems.{one-centre, centre_inside, centre-carried}
use Rattle.form.specs.document.Labelled.{IsCentredₗ}
use Rattle.numbering.specs.document.Decoded.{parent}
use Rattle.orbits.specs.document.Carried.{Carried, Carriedₗ}
use Rattle.orbits.specs.Parents.{root-parent, has_parent, tree_ofₗ, parent_lowₗ, parent_arc, arc_parent}

-- where there is one label, labels are kept
pub carried-base : (N : ℕ) (E : List ℕ) (l : ℕ → base.Label) (u v : ℕ) → Carriedₗ base N E l u v ↔ Carried N E u v
carried-base N E l u v = (λ (ρ, e, k). (ρ, e), λ (ρ, e). (ρ, e, λ w a b. refl))

-- u is carried to v exactly when the rooted codes at u and at v are equal
pub carried-codes : (M : Marks) (N : ℕ) (E : List ℕ) (l : ℕ → M.Label) → IsTree N E → (u v : ℕ) → 1 ≤ u → u ≤ N → 1 ≤ v → v ≤ N → Carriedₗ M N E l u v ↔ (rootedₗ M l N E u ≡ rootedₗ M l N E v)
carried-codes M N E l t u v a b g h = let (there, back) = equal-codes M N E u l t a b E v l t g h in (back, there)

-- ---- the middles of a path

joined_at : (A : List Arc) (p : List ℕ) (i : ℕ) → Joined A p → suc i < length p → Memᴰ (get_or p i 0, get_or p (suc i) 0) A
joined_at A [] i j h = let z : ⊥ = omega arith in absurd z
joined_at A (u ∷ []) i j h = let z : ⊥ = omega arith in absurd z
joined_at A (u ∷ v ∷ p) zero j h = j.0
joined_at A (u ∷ v ∷ p) (suc i) j h = joined_at A (v ∷ p) i j.1 (omega arith)

-- they are one, or joined
pub middles-joined : (N : ℕ) (E : List ℕ) (u v : ℕ) → IsCentre N E u v → (u ≡ v) ⊎ Memᴰ (u, v) (arcs E)
unfolding middle₁ middle₂
middles-joined N E u v z = step (ℕ_discrete ((length p - 1) / 2) (length p / 2))
  where
    p : List ℕ
    p = z.path

    step : Dec ((length p - 1) / 2 ≡ length p / 2) → (u ≡ v) ⊎ Memᴰ (u, v) (arcs E)
    step (yes e) = inl (sym z.first ∙ ap (λ i. get_or p i 0) e ∙ z.second)
    step (no n) =
        let e : suc ((length p - 1) / 2) ≡ length p / 2 = omega arith in
        let m = joined_at (arcs E) p ((length p - 1) / 2) z.longest.path.joined (omega arith) in
        let b : get_or p (suc ((length p - 1) / 2)) 0 ≡ v = ap (λ i. get_or p i 0) e ∙ z.second in
        inr (rw (z.first, b) at m)

-- ---- a centred code

module _ (M : Marks) (c : List ℕ) (x : IsRootedₗ M c) (z : IsCentredₗ M (length c) (decode (digits M c)) (labels M c) c) where
  abbrev N : ℕ
  N = length c

  abbrev ds : List ℕ
  ds = digits M c

  abbrev E : List ℕ
  E = decode ds

  abbrev t : IsTree N E
  t = tree_ofₗ M c x

  -- vertex 1 is a middle
  root-middle : (y : ℕ) × (IsCentre N E 1 y ⊎ IsCentre N E y 1)
  root-middle =
      let ((a, b), (g, h)) = centre_inside N E t z.first z.second z.centre in
      let at : ℕ → List ℕ = rootedₗ M (labels M c) N E in
      let root : at 1 ≡ c = ((decode-code M c).0 x).1 in
      let to-root : (v : ℕ) → 1 ≤ v → v ≤ N → c ≡ at v → Carriedₗ M N E (labels M c) v 1 = λ v i j e. (equal-codes M N E v (labels M c) t i j E 1 (labels M c) t (omega arith) (omega arith)).0 (sym e ∙ sym root) in
      ⊎_elim
      (λ e. let (ρ, q, k) = to-root z.first a b e in (ρ.to z.second, inl (subst (λ v. IsCentre N E v (ρ.to z.second)) q (centre-carried N E t E ρ z.first z.second z.centre))))
      (λ e. let (ρ, q, k) = to-root z.second g h e in (ρ.to z.first, inr (subst (λ v. IsCentre N E (ρ.to z.first) v) q (centre-carried N E t E ρ z.first z.second z.centre))))
      z.either

  module _ (ρ : Renumbering N E E) where
    -- the root stays, or goes to a child of its own
    abbrev Moves : Type 0
    Moves = (ρ.to 1 ≡ 1) ⊎ ((2 ≤ ρ.to 1) × (parent ds (ρ.to 1) ≡ 1))

    moves_to : (y : ℕ) → ρ.to 1 ≡ y → (1 ≡ y) ⊎ Memᴰ (1, y) (arcs E) → 1 ≤ N → Moves
    moves_to y e (inl q) h = inl (e ∙ sym q)
    moves_to y e (inr m) h = ⊎_elim
        (λ q. let w : ⊥ = omega (arith, root-parent ds, ρ.to_in 1 (omega arith) h) in absurd w)
        (λ q. inr (rw e (has_parent ds y (omega arith), sym q)))
        (arc_parent M c x 1 y m)

    pub root_moves : Moves
    root_moves =
        let (y, m) = root-middle in
        let ((a, b), (g, h)) = centre_inside N E t z.first z.second z.centre in
        let some : 1 ≤ N = omega arith in
        ⊎_elim
        (λ k. ⊎_elim (λ e. inl e.0) (λ e. moves_to y e.0 (middles-joined N E 1 y k) some) (one-centre N E t 1 y (ρ.to 1) (ρ.to y) k (centre-carried N E t E ρ 1 y k)))
        (λ k. ⊎_elim (λ e. inl e.1) (λ e. moves_to y e.1 (⊎_elim (λ q. inl (sym q)) (λ i. inr (turn E i)) (middles-joined N E y 1 k)) some)
        (one-centre N E t y 1 (ρ.to y) (ρ.to 1) k (centre-carried N E t E ρ y 1 k)))
        m

    -- n: a bound on v
    carried_up : (n v : ℕ) → v ≤ n → 2 ≤ v → v ≤ N → 2 ≤ ρ.to v → ρ.to (parent ds v) ≡ parent ds (ρ.to v)
    carried_up zero v l a b h = let w : ⊥ = omega arith in absurd w
    carried_up (suc n) v l a b h =
        step (ℕ_discrete (parent ds v) 1) (arc_parent M c x (ρ.to v) (ρ.to (parent ds v)) (perm_in ρ.carries (Memᴰ.map (carry ρ.to) (parent_arc M c x v a b)))) (carried_up n (parent ds v))
      where
        lower : (1 ≤ parent ds v) × (parent ds v < v)
        lower = parent_lowₗ M c x v a b

        step : Dec (parent ds v ≡ 1) → (ρ.to (parent ds v) ≡ parent ds (ρ.to v)) ⊎ (ρ.to v ≡ parent ds (ρ.to (parent ds v)))
            → (parent ds v ≤ n → 2 ≤ parent ds v → parent ds v ≤ N → 2 ≤ ρ.to (parent ds v) → ρ.to (parent ds (parent ds v)) ≡ parent ds (ρ.to (parent ds v)))
            → ρ.to (parent ds v) ≡ parent ds (ρ.to v)
        step d (inl e) r = e
        step (yes q) (inr e) r =
            let f : ρ.to v ≡ parent ds (ρ.to 1) = e ∙ ap (λ u. parent ds (ρ.to u)) q in
            absurd (⊎_elim
            (λ s. let w : ⊥ = omega (arith, f ∙ ap (parent ds) s, root-parent ds) in w)
            (λ s. let w : ⊥ = omega (arith, f ∙ s.1) in w)
            root_moves)
        step (no q) (inr e) r =
            let i : 2 ≤ ρ.to (parent ds v) = has_parent ds (ρ.to (parent ds v)) (omega arith) in
            let f = r (omega (arith, lower)) (omega (arith, lower)) (omega (arith, lower)) i ∙ sym e in
            let (g, k) = parent_lowₗ M c x (parent ds v) (omega (arith, lower)) (omega (arith, lower)) in
            let same : parent ds (parent ds v) ≡ v = one_to_one N E E ρ (parent ds (parent ds v)) v (omega (arith, lower)) (omega arith) f in
            let w : ⊥ = omega (arith, lower) in absurd w

    -- a parent goes where its child goes
    pub parent-carried : (v : ℕ) → 2 ≤ v → v ≤ N → 2 ≤ ρ.to v → ρ.to (parent ds v) ≡ parent ds (ρ.to v)
    parent-carried v = carried_up v v (omega arith)
