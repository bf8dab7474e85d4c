-- The classes of the vertices that renumberings of the skeleton onto itself carry to one another, told from vertex to vertex in the numbering of a centred code, with the
-- classes of the vertices before for the test. Here stands what rests on `Testₗ`; the rest is in `specs.Classes`. Assumes nothing.
use Rattle.std.specs.Prelude.{◌≡◌, ◌↔◌, length}
use Rattle.std.proofs.Math.Path.{refl, ap}
use Rattle.std.proofs.Common.{sym, ◌∙◌, subst}
use Rattle.std.proofs.Math.Logic.{Iff.trans as iff_trans, ite}
use mathlib.Core.List.{List, [], ◌∷◌, ◌++◌}
use Prim.Native.Nat.{ℕ, zero, suc, ◌+◌, ◌≤◌, ◌<◌}
use native.Mathlib.Omega.{arith}
use Rattle.digit_code.specs.document.Code.{decode}
use Rattle.digit_code.specs.Ends.{Ends}
use Rattle.skeleton.specs.document.Label.{Marks, rootedₗ, digits, labels}
use Rattle.skeleton.specs.Label.{IsRootedₗ}
use Rattle.skeleton.specs.Base.{base, digits-base}
use Rattle.skeleton.specs.General.{decoded_tree}
use Rattle.form.specs.document.Form.{IsCentred}
use Rattle.form.specs.document.Labelled.{IsCentredₗ, Own}
use Rattle.form.specs.Labelled.{centred_formₗ, is_rootedₗ}
use Rattle.form.specs.Forms.{own_base}
use Rattle.numbering.specs.document.Decoded.{parent}
use Rattle.orbits.specs.document.Carried.{ClassesOf, Carriedₗ, ClassesOfₗ}
use Rattle.orbits.specs.document.Numbering.{ByAppearance}
use Rattle.orbits.specs.Found.{greatest, class_of, numbering, same?}
use Rattle.orbits.specs.Appearance.{numbering_is, numbering_length}
use Rattle.orbits.specs.Parents.{tree_ofₗ, parent_lowₗ}
use Rattle.orbits.specs.Carried.{carried-codes}
use Rattle.orbits.specs.Rule.{carried_parents, carried-root}
use Rattle.orbits.specs.Classes.{Testₗ, testₗ, toldₗ, classesₗ, classes, appearance_same, classes-base}

-- tests that agree on the vertices before v give it the same class
class_agrees : {R S : ℕ → ℕ → Type 0} (R? : (u v : ℕ) → Dec (R u v)) (S? : (u v : ℕ) → Dec (S u v)) (v new u : ℕ) (l : List ℕ)
    → ((w : ℕ) → u ≤ w → w < u + length l → R w v ↔ S w v) → class_of R? v new u l ≡ class_of S? v new u l
unfolding class_of
class_agrees R? S? v new u [] h = refl
class_agrees {R} {S} R? S? v new u (k ∷ l) h = step (R? u v) (S? u v) (h u (omega arith) (omega arith)) (class_agrees R? S? v new (suc u) l (λ w a b. h w (omega arith) (omega arith)))
  where
    step : (d : Dec (R u v)) (e : Dec (S u v)) → R u v ↔ S u v → {m n : ℕ} → m ≡ n → ite d k m ≡ ite e k n
    step (yes a) (yes b) i q = refl
    step (yes a) (no b) i q = absurd (b (i.0 a))
    step (no a) (yes b) i q = absurd (a (i.1 b))
    step (no a) (no b) i q = q

module _ (M : Marks) (c : List ℕ) (x : IsRootedₗ M c) (z : Own M (IsCentredₗ M) c) where
  abbrev N : ℕ
  N = length c

  abbrev ds : List ℕ
  ds = digits M c

  abbrev E : List ℕ
  E = decode ds

  abbrev at : ℕ → List ℕ
  at = rootedₗ M (labels M c) N E

  -- equal rooted codes: an equivalence on all numbers, and `Carriedₗ` on those of vertices
  abbrev R : ℕ → ℕ → Type 0
  R u v = at u ≡ at v

  R? : (u v : ℕ) → Dec (R u v)
  R? u v = same? (at u) (at v)

  carried_is : (u v : ℕ) → 1 ≤ u → u ≤ N → 1 ≤ v → v ≤ N → Carriedₗ M N E (labels M c) u v ↔ R u v
  carried_is = carried-codes M N E (labels M c) (tree_ofₗ M c x)

  by_codes : (n : ℕ) → ByAppearance R n (numbering R? n)
  by_codes = numbering_is (λ u. refl) (λ u v e. sym e) (λ u v w e f. e ∙ f) R?

  -- where the classes before v are by first appearance, the test tells who of those before is carried to v
  pub test_right : (n : ℕ) (l : List ℕ) → ByAppearance R n l → suc n ≤ N → (u : ℕ) → 1 ≤ u → u ≤ n → Testₗ M ds c l u (suc n) ↔ R u (suc n)
  test_right n l b h zero i j = let w : ⊥ = omega arith in absurd w
  test_right n l b h (suc zero) i j =
      let (there, back) = carried-root M c x z (suc n) (omega arith) h in
      iff_trans (back, there) (carried_is 1 (suc n) (omega arith) (omega arith) (omega arith) h)
  test_right n l b h (suc (suc u)) i j =
      let (there, back) = carried_parents M c x z (suc (suc u)) (suc n) (omega arith) (omega arith) (omega arith) h in
      let (p, q) = parent_lowₗ M c x (suc (suc u)) (omega arith) (omega arith) in
      let (r, s) = parent_lowₗ M c x (suc n) (omega arith) h in
      let up = b.alike (parent ds (suc (suc u))) (parent ds (suc n)) p (omega arith) r (omega arith) in
      let like = carried_is (parent ds (suc (suc u))) (parent ds (suc n)) p (omega arith) r (omega arith) in
      let same = carried_is (suc (suc u)) (suc n) (omega arith) (omega arith) (omega arith) h in (
        λ (e, f). same.0 (back (like.1 (up.0 e), f)),
        λ e. let (g, f) = there (same.1 e) in (up.1 (like.0 g), f),
      )

  told-numbering : (n : ℕ) → n ≤ N → toldₗ M ds c n ≡ numbering R? n
  unfolding toldₗ numbering
  told-numbering zero h = refl
  told-numbering (suc n) h =
      let e : toldₗ M ds c n ≡ numbering R? n = told-numbering n (omega arith) in
      let l : List ℕ = numbering R? n in
      ap (λ m. m ++ (class_of (testₗ M ds c m) (suc n) (suc (greatest m)) 1 m ∷ [])) e
      ∙ ap (λ k. l ++ (k ∷ []))
      (class_agrees (testₗ M ds c l) R? (suc n) (suc (greatest l)) 1 l (λ w a b. test_right n l (by_codes n) h w a (omega (arith, numbering_length R? n))))

  numbered : ClassesOfₗ M c (classesₗ M ds c)
  unfolding classesₗ
  numbered =
      appearance_same (λ u v a g h k. let (there, back) = carried_is u v a g h k in (back, there))
      (subst (ByAppearance R N) (sym (told-numbering N (omega arith))) (by_codes N))

-- In the numbering of a centred code they are numbered by first appearance, one for two vertices exactly when one is carried to the other.
pub classes_rightₗ : (M : Marks) (c : List ℕ) → Ends 1 (digits M c) → Own M (IsCentredₗ M) c → ClassesOfₗ M c (classesₗ M (digits M c) c)
classes_rightₗ M c w z = numbered M c (is_rootedₗ M (IsCentredₗ M) (centred_formₗ M) (length c) (decode (digits M c)) (labels M c) c (decoded_tree M c w) z) z

pub classes_right : (c : List ℕ) → Ends 1 c → IsCentred (length c) (decode c) c → ClassesOf c (classes c)
classes_right c w z =
    (classes-base c (classes c)).0 (subst (λ d. ClassesOfₗ base c (classesₗ base d c)) (digits-base c) (classes_rightₗ base c (rw digits-base w) (rw own_base z)))
