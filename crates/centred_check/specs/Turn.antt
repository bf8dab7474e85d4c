-- A tree with its trees below the root rearranged, or with the first child made the root; and the code there, by marks (`other_is`).
-- Assumes nothing.
use Rattle.std.specs.Prelude.{◌≡◌, refl, length, get_or, drop}
use Rattle.std.proofs.Math.Path.{ap, ap₂, sym}
use Rattle.std.proofs.Common.{◌∙◌, arith, length-append, drop_at}
use mathlib.Core.List.{List, [], ◌∷◌, ◌++◌, map, flatten, append_assoc, append-nil, Permᴰ}
use Prim.Native.Nat.{ℕ, suc, ◌-◌}
use Rattle.std.proofs.Math.ListN.{take}
use Rattle.std.proofs.Math.Seq.{get_or-append_seam, take-append_seam, drop-append_seam}
use Rattle.laws.specs.document.Order.{insert, sort}
use Rattle.laws.specs.Falling.{Falling}
use Rattle.laws.specs.Sorting.{sort_stays}
use Rattle.laws.specs.Perms.{perm_in, perm_length, front}
use Rattle.laws.specs.Once.{once_perm}
use Rattle.laws.specs.document.Once.{Once}
use Rattle.digit_code.specs.document.Code.{codes}
use Rattle.skeleton.specs.Forest.{Forest, tree, vertices, hung, Rooted}
use Rattle.skeleton.specs.Forests.{count-vertices, distinct_once}
use Rattle.skeleton.specs.document.Label.{Marks, joinₗ, rootedₗ, digits}
use Rattle.skeleton.specs.Label.{more, fewer}
use Rattle.skeleton.specs.Codes.{branches, rooted-join}
use Rattle.skeleton.specs.Decoding.{width, shape, marks, marks-digits}
use Rattle.skeleton.specs.Ordered.{strings, strings_length, strings-marks, codes_forest, first-codes, Down, down-branches}
use Rattle.centred_check.specs.Middle.{peak, heights, branch, rest, turned, other}
use Rattle.centred_check.specs.Lift.{Lifted, talls, heights_forest}

-- the same tree with another root, or another order of its vertices
pub moved : {N : ℕ} {E : List ℕ} {r : ℕ} (s : Rooted N E r) (q : ℕ) (g : Forest) → Permᴰ (r ∷ vertices s.forest) (q ∷ vertices g) → Permᴰ (hung r s.forest) (hung q g)
    → (t : Rooted N E q) × (t.forest ≡ g)
moved {r = r} s q g π σ =
    let o : Once (q ∷ vertices g) = once_perm π (s.apart, (distinct_once s.forest).0 s.distinct) in (
      record {
        forest = g;
        same = mathlib.Core.List.Permᴰ.trans s.same σ;
        apart = o.0;
        distinct = (distinct_once g).1 o.1;
        inside = λ v h. s.inside v (perm_in (mathlib.Core.List.Permᴰ.symm π) h);
        all = λ v a b. perm_in π (s.all v a b);
        full = omega (arith, s.full, perm_length π, count-vertices s.forest, count-vertices g);
      },
      refl,
    )

module _ {A : Type 0} where
  swap_parts : (x y : List A) → Permᴰ (x ++ y) (y ++ x)
  swap_parts x y = simp append-nil at (front x y [])

-- the first child made the root
pub turned_round : {N : ℕ} {E : List ℕ} {r : ℕ} (s : Rooted N E r) (x : ℕ) (d g : Forest) → s.forest ≡ tree x d g → (t : Rooted N E x) × (t.forest ≡ tree r g d)
unfolding vertices hung
turned_round {r = r} s x d g is =
    let π : Permᴰ (r ∷ x ∷ (vertices d ++ vertices g)) (x ∷ r ∷ (vertices g ++ vertices d)) =
    mathlib.Core.List.Permᴰ.trans (mathlib.Core.List.Permᴰ.swap refl refl) (mathlib.Core.List.Permᴰ.cons refl (mathlib.Core.List.Permᴰ.cons refl (swap_parts (vertices d) (vertices g)))) in
    let σ : Permᴰ ((r, x) ∷ (x, r) ∷ (hung x d ++ hung r g)) ((x, r) ∷ (r, x) ∷ (hung r g ++ hung x d)) =
    mathlib.Core.List.Permᴰ.trans (mathlib.Core.List.Permᴰ.swap refl refl) (mathlib.Core.List.Permᴰ.cons refl (mathlib.Core.List.Permᴰ.cons refl (swap_parts (hung x d) (hung r g)))) in
    moved s x (tree r g d) (rw is π) (rw is σ)

module _ (M : Marks) (label : ℕ → M.Label) where
  -- the trees below a vertex go down as they stand, and so at every vertex below
  abbrev pub Falls : Forest → Type 0
  Falls f = Falling (strings M label f) × Down M label f

  -- the code of a vertex over such a forest is the forest's marks
  joined : (a : M.Label) (f : Forest) → Falls f → joinₗ M a (branches M label f) ≡ M.mark (width f) a ∷ marks M label f
  unfolding joinₗ
  joined a f (h, o) =
      ap (λ x. M.mark (length x) a ∷ flatten (sort x)) (down-branches M label f o)
      ∙ ap₂ (λ n x. M.mark n a ∷ x) (strings_length M label f) (ap flatten (sort_stays (strings M label f) h) ∙ strings-marks M label f)

  pub code_is : {N : ℕ} {E : List ℕ} {r : ℕ} (s : Rooted N E r) → Falls s.forest → rootedₗ M label N E r ≡ M.mark (width s.forest) (label r) ∷ marks M label s.forest
  code_is {N} {E} {r} s o = rooted-join M label N E r s ∙ joined (label r) s.forest o

  -- the code where one more tree stands among those that go down
  pub code-more : {N : ℕ} {E : List ℕ} {x : ℕ} (s : Rooted N E x) (r : ℕ) (g d : Forest) → s.forest ≡ tree r g d → Falls g → Falls d
      → rootedₗ M label N E x ≡ M.mark (suc (width d)) (label x) ∷ flatten (insert (M.mark (width g) (label r) ∷ marks M label g) (strings M label d))
  unfolding joinₗ branches sort
  code-more {N} {E} {x} s r g d is a b =
      rooted-join M label N E x s
      ∙ ap (λ f. joinₗ M (label x) (branches M label f)) is
      ∙ ap₂ (λ y l. M.mark (suc (length l)) (label x) ∷ flatten (insert y (sort l))) (joined (label r) g a) (down-branches M label d b.1)
      ∙ ap₂ (λ n l. M.mark (suc n) (label x) ∷ flatten (insert (M.mark (width g) (label r) ∷ marks M label g) l)) (strings_length M label d) (sort_stays (strings M label d) b.0)

  codes-whole : (f : Forest) → codes M.arity (marks M label f) ≡ strings M label f
  unfolding codes
  codes-whole f = ap (codes M.arity) (sym (append-nil (marks M label f))) ∙ codes_forest M label f [] ∙ append-nil (strings M label f)

  pub heights-whole : (f : Forest) → heights (map M.arity (marks M label f)) ≡ talls f
  unfolding heights digits
  heights-whole f = ap heights (marks-digits M label f ∙ sym (append-nil (shape f))) ∙ heights_forest f [] ∙ append-nil (talls f)

-- `turned` where the marks stand apart
turned-at : (M : Marks) (k : ℕ) (a : List ℕ) (m : ℕ) (b z : List ℕ)
    → turned M (k ∷ (a ++ (m ∷ (b ++ z)))) (suc (length a)) (suc (length (a ++ (m ∷ b)))) ≡ more M m ∷ flatten (insert (fewer M k ∷ (a ++ z)) (take (M.arity m) (codes M.arity (b ++ z))))
unfolding turned rest
turned-at M k a m b z =
    let mark : get_or (a ++ (m ∷ (b ++ z))) (length a) 0 ≡ m = get_or-append_seam a m (b ++ z) 0 in
    let below : drop (suc (length a)) (a ++ (m ∷ (b ++ z))) ≡ b ++ z =
    ap (drop (suc (length a))) (sym (append_assoc a (m ∷ []) (b ++ z))) ∙ drop_at (a ++ (m ∷ [])) (b ++ z) (suc (length a)) (omega (arith, length-append a (m ∷ []))) in
    let n : suc (length a) - 1 ≡ length a = omega arith in
    let before : take (suc (length a) - 1) (a ++ (m ∷ (b ++ z))) ≡ a = ap (λ i. take i (a ++ (m ∷ (b ++ z)))) n ∙ take-append_seam a (m ∷ (b ++ z)) in
    let after : drop (length (a ++ (m ∷ b))) (a ++ (m ∷ (b ++ z))) ≡ z = ap (drop (length (a ++ (m ∷ b)))) (sym (append_assoc a (m ∷ b) z)) ∙ drop-append_seam (a ++ (m ∷ b)) z in
    rw (mark, below, before, after)

module _ (M : Marks) (label : ℕ → M.Label) (a : M.Label) (f : Forest) (t : Lifted M label f (peak (talls f))) where
  -- the marks of a vertex over f, of the first tallest tree's root, and of the vertex over the others
  abbrev whole : ℕ
  whole = M.mark (width f) a

  abbrev tallest : ℕ
  tallest = M.mark (width t.below) (label t.root)

  more_is : more M tallest ≡ M.mark (suc (width t.below)) (label t.root)
  more_is = ap₂ (λ n b. M.mark (suc n) b) (M.arity_mark (width t.below) (label t.root)) (M.atom_mark (width t.below) (label t.root))

  fewer_is : fewer M whole ≡ M.mark (width t.others) a
  fewer_is = let w : width f - 1 ≡ width t.others = omega (arith, t.wide) in ap₂ (λ n b. M.mark (n - 1) b) (M.arity_mark (width f) a) (M.atom_mark (width f) a) ∙ ap (λ n. M.mark n a) w

  -- the other code by the forest
  pub other_is : other M (M.mark (width f) a ∷ marks M label f)
      ≡ M.mark (suc (width t.below)) (label t.root) ∷ flatten (insert (M.mark (width t.others) a ∷ marks M label t.others) (strings M label t.below))
  unfolding other branch
  other_is =
      let i : ℕ = peak (talls f) in
      let b : suc (length (flatten (take i (codes M.arity (marks M label f))))) ≡ suc (length t.before) = ap (λ l. suc (length l)) (ap (λ l. flatten (take i l)) (codes-whole M label f) ∙ t.begins) in
      let e : suc (length (flatten (take (suc i) (codes M.arity (marks M label f))))) ≡ suc (length (t.before ++ (tallest ∷ marks M label t.below))) =
      ap (λ l. suc (length l)) (ap (λ l. flatten (take (suc i) l)) (codes-whole M label f) ∙ t.ends) in
      ap (λ i. turned M (whole ∷ marks M label f) (suc (length (flatten (take i (codes M.arity (marks M label f)))))) (suc (length (flatten (take (suc i) (codes M.arity (marks M label f))))))) (ap peak (heights-whole M label f))
      ∙ ap₂ (turned M (whole ∷ marks M label f)) b e
      ∙ ap (λ l. turned M (whole ∷ l) (suc (length t.before)) (suc (length (t.before ++ (tallest ∷ marks M label t.below))))) t.here
      ∙ turned-at M whole t.before tallest (marks M label t.below) t.after
      ∙ ap₂ (λ y l. y ∷ flatten l) more_is
      (ap₂ insert (ap₂ (λ n l. n ∷ l) fewer_is (sym t.left))
      (ap (λ n. take n (codes M.arity (marks M label t.below ++ t.after))) (M.arity_mark (width t.below) (label t.root)) ∙ first-codes M label t.below t.after))
