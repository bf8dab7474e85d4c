-- A skeleton's degrees are told by its rooted code: the root's is its digit, any other vertex's is one more than its digit. Assumes nothing.
use Rattle.std.specs.Prelude.{◌≡◌, refl, ◌↔◌, ℕ, zero, suc, ◌+◌, ◌-◌, ◌≤◌, get_or}
use Rattle.std.proofs.Math.Path.{ap}
use Rattle.std.proofs.Common.{◌∙◌, arith}
use Rattle.std.proofs.Math.Logic.{⊎_elim}
use mathlib.Core.List.Memᴰ
use mathlib.Core.List.{List, [], ◌∷◌, ◌++◌, Memᴰ}
use Rattle.std.proofs.Math.ListN.{length}
use Rattle.laws.specs.Perms.{perm_length}
use Rattle.laws.specs.Places.{at_in, place, place_at}
use Rattle.skeleton.specs.document.Skeleton.{Arc, arcs, neighbours, degree}
use Rattle.skeleton.specs.Forest.{Forest, none, tree, vertices, Rooted}
use Rattle.skeleton.specs.document.Label.{Marks, rootedₗ}
use Rattle.skeleton.specs.Label.{Valences, Fits, Capped}
use Rattle.skeleton.specs.Codes.{roots, neighbours_perm, near, Good, good}
use Rattle.skeleton.specs.Decoding.{width, marks}
use Rattle.skeleton.specs.Sorted.{sorted, rooted-marks}

pub roots_length : (f : Forest) → length (roots f) ≡ width f
unfolding roots width
roots_length none = refl
roots_length (tree v d f) = ap suc (roots_length f)

-- what holds of all members holds of the first and of the two parts behind it
module _ {A : Type 0} (P : A → Type 0) where
  abbrev All : List A → Type 0
  All l = (x : A) → Memᴰ x l → P x

  all_none : All [] ↔ Unit {0}
  all_none = (λ h. tt, λ u x m. absurd (Memᴰ.not-nil m))

  all_join : (a : A) (l m : List A) → All (a ∷ (l ++ m)) ↔ (P a × All l × All m)
  all_join a l m = (
    λ h. (h a (Memᴰ.head refl), λ x k. h x (Memᴰ.tail (Memᴰ.append_left m k)), λ x k. h x (Memᴰ.tail (Memᴰ.append_right l k))),
    λ (p, q, s) x h. ⊎_elim (λ e. rw e p) (λ k. ⊎_elim (q x) (s x) (Memᴰ.append_cases l k)) (Memᴰ.cases_cons h),
  )

module _ (M : Marks) (most : M.Label → ℕ) (label : ℕ → M.Label) where
  -- no vertex of a forest has more neighbours than its label allows, its parent among them
  abbrev Low : Forest → Type 0
  Low none = Unit {0}
  Low (tree v d f) = (width d + 1 ≤ most (label v)) × Low d × Low f

  both : {A A' B B' C C' D : Type 0} → D ↔ (A × B × C) → A ↔ A' → B ↔ B' → C ↔ C' → D ↔ (A' × B' × C')
  both j a b c = (λ d. let (x, y, z) = j.0 d in (a.0 x, b.0 y, c.0 z), λ (x, y, z). j.1 (a.1 x, b.1 y, c.1 z))

  low-degrees : (A : List Arc) (p : ℕ) (f : Forest) → Good A p f → All (λ v. length (neighbours A v) ≤ most (label v)) (vertices f) ↔ Low f
  unfolding vertices
  low-degrees A p none g = all_none (λ v. length (neighbours A v) ≤ most (label v))
  low-degrees A p (tree v d f) (π, m, g, h) =
      let e : length (neighbours A v) ≡ width d + 1 = omega (arith, perm_length π, roots_length d) in
      both (all_join (λ v. length (neighbours A v) ≤ most (label v)) v (vertices d) (vertices f)) (omega arith) (low-degrees A v d g) (low-degrees A p f h)

  low-marks : (f : Forest) → All (λ m. M.arity m + 1 ≤ most (M.atom m)) (marks M label f) ↔ Low f
  unfolding marks
  low-marks none = all_none (λ m. M.arity m + 1 ≤ most (M.atom m))
  low-marks (tree v d f) =
      both (all_join (λ m. M.arity m + 1 ≤ most (M.atom m)) (M.mark (width d) (label v)) (marks M label d) (marks M label f))
      (rw (M.arity_mark, M.atom_mark) (λ h. h, λ h. h)) (low-marks d) (low-marks f)

  -- no vertex has too many neighbours exactly when no mark tells of too many
  pub degrees-code : (N : ℕ) (E : List ℕ) (r : ℕ) → Rooted N E r → Valences M most label N E ↔ Fits M most (rootedₗ M label N E r)
  unfolding Valences degree
  degrees-code N E r s =
      let t : Rooted N E r = sorted M label N E r s in
      let f : Forest = t.forest in
      let A : List Arc = arcs E in
      let g : Good A r f = good A r f t.same t.apart t.distinct in
      let e : length (neighbours A r) ≡ width f = perm_length (neighbours_perm r t.same) ∙ ap length (near r f t.apart) ∙ roots_length f in
      let (a, b) = t.inside r (Memᴰ.head refl) in
      rw (rooted-marks M label N E r s, M.arity_mark, M.atom_mark) (
        λ h. (
          omega (arith, h r a b),
          (low-marks f).1 ((low-degrees A r f g).0 (λ v m. let (i, j) = t.inside v (Memᴰ.tail m) in h v i j)),
        ),
        λ (h, k) v i j. ⊎_elim (λ q. rw q (omega arith)) ((low-degrees A r f g).1 ((low-marks f).0 k) v) (Memᴰ.cases_cons (t.all v i j)),
      )

-- the bound on the marks is the bound by places, where each vertex but the root may have one neighbour
pub fits_capped : (M : Marks) (most : M.Label → ℕ) (m : ℕ) (ms : List ℕ) → (Capped M most (m ∷ ms) → (d : ℕ) → Memᴰ d ms → 1 ≤ most (M.atom d))
    → Fits M most (m ∷ ms) ↔ Capped M most (m ∷ ms)
fits_capped M most m ms one = (there, back)
  where
    there : Fits M most (m ∷ ms) → Capped M most (m ∷ ms)
    there f zero a b = let z : ⊥ = omega arith in absurd z
    there f (suc zero) a b = f.0
    there f (suc (suc p)) a b =
        let e : suc (suc p) - 1 ≡ suc p = omega arith in
        rw e (omega (arith, f.1 (get_or ms p 0) (at_in ms p 0 (omega arith))))

    back : Capped M most (m ∷ ms) → Fits M most (m ∷ ms)
    back g = (
      g 1 (omega arith) (omega arith),
      λ d k.
          let (i, e) = place_at d ms k in
          let n : suc (suc (place d ms)) - 1 ≡ suc (place d ms) = omega arith in
          omega (arith, rw (n, e) at (g (suc (suc (place d ms))) (omega arith) (omega arith)), one g d k),
    )
