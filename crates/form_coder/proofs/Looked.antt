-- The pairs looked at, as they are added up: at one root, over the middles, over the vertices of maximum degree passed so far.
-- `at v` is the number at the root v. Assumes nothing.
use mathlib.Core.Path.{◌≡◌, refl, sym, ap₂, ◌∙◌}
use mathlib.Core.Logic.{ite, if_pos, if_neg}
use mathlib.Core.List.{List}
use Prim.Native.Nat.{ℕ, ◌+◌, ◌*◌, ◌≤◌}
use native.Mathlib.Decide.{ℕ_discrete}
use native.Mathlib.Numerals.{add-one}
use native.Mathlib.Omega.{arith}
use Rattle.limits.specs.document.Limits.{size}
use Rattle.limits.specs.Width.{width}
use Rattle.skeleton.specs.document.Skeleton.{degree, IsSkeleton}
use Rattle.skeleton.specs.document.Atom.{Atom}
use Rattle.skeleton.specs.document.AtomMarks.{atoms}
use Rattle.longest_path.specs.document.Path.{IsCentre}
use Rattle.numbering.specs.Numbers.{pairsₗ}
use Rattle.form_coder.specs.document.Pairs.{OverMiddles, of_degree}
use Rattle.form_coder.specs.Sums.{marks-at}

-- at one root
abbrev pub coding : (ℕ → Atom) → ℕ → List ℕ → ℕ → ℕ
coding label n E r = pairsₗ atoms label n E r

pub few_at : {n : ℕ} {E : List ℕ} → IsSkeleton size width n E → (label : ℕ → Atom) {r : ℕ} → 1 ≤ r → r ≤ n → {x : ℕ} → x ≡ coding label n E r → x ≤ size * size
few_at s label {r} h k e = omega (arith, marks-at s label r h k)

-- ---- over the middles

module _ {n : ℕ} {E : List ℕ} (at : ℕ → ℕ) {u v : ℕ} (z : IsCentre n E u v) {x : ℕ} (e : x ≡ at u) where
  pub one_summed : u ≡ v → OverMiddles n E at x
  one_summed q = record { first = u; second = v; centre = z; is = e ∙ sym (if_pos (ℕ_discrete u v) q (at u) (at u + at v)) }

  pub both_summed : {y : ℕ} → y ≡ at v → (u ≡ v → ⊥) → OverMiddles n E at (x + y)
  both_summed f q = record { first = u; second = v; centre = z; is = ap₂ ◌+◌ e f ∙ sym (if_neg (ℕ_discrete u v) q (at u) (at u + at v)) }

-- ---- over the vertices of degree d up to v

pub record Summed (E : List ℕ) (at : ℕ → ℕ) (d v x : ℕ) : Type 0 where
  pub count : x ≡ of_degree E at d v
  pub few : x ≤ v * (size * size)

pub summed_none : {E : List ℕ} {at : ℕ → ℕ} {d : ℕ} → Summed E at d 0 0
unfolding of_degree
summed_none = record { count = refl; few = omega arith }

-- one vertex more
module _ {E : List ℕ} {at : ℕ → ℕ} {d v x : ℕ} (m : Summed E at d v x) where
  next : (y : ℕ) → ite (ℕ_discrete (degree E (v + 1)) d) (at (v + 1)) 0 ≡ y → x + y ≡ of_degree E at d (v + 1)
  unfolding of_degree
  next y e = rw (add-one v) (ap₂ ◌+◌ m.count (sym (rw (add-one v) at e)))

  pub summed_past : (degree E (v + 1) ≡ d → ⊥) → Summed E at d (v + 1) x
  summed_past q =
      let e : x + 0 ≡ of_degree E at d (v + 1) = next 0 (if_neg (ℕ_discrete (degree E (v + 1)) d) q (at (v + 1)) 0) in
      record { count = omega arith; few = omega (arith, m.few) }

  pub summed_next : {y : ℕ} → degree E (v + 1) ≡ d → y ≡ at (v + 1) → y ≤ size * size → Summed E at d (v + 1) (x + y)
  summed_next {y} q e l = record { count = next y (if_pos (ℕ_discrete (degree E (v + 1)) d) q (at (v + 1)) 0 ∙ sym e); few = omega (arith, m.few) }
