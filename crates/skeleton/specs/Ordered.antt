-- A rooted code told by its marks alone: their digits end, and at no mark is a child's code larger than that of the sibling before it
-- (`code_orderedₗ`, and `code-ordered` for document 01's codes). So a code is tested with neither decoding nor sorting.
--
-- In order: forests as they stand; marks that are read off their digits and labels; the theorem. Assumes nothing.
use Rattle.std.specs.Prelude.{◌≡◌, ◌↔◌, take}
use Rattle.std.proofs.Math.Path.{refl, ap, ap₂, sym}
use Rattle.std.proofs.Common.{◌∙◌, subst, take_at, drop_at}
use Rattle.std.proofs.Math.Logic.{Iff.trans as iff_trans}
use mathlib.Core.List.{List, [], ◌∷◌, ◌++◌, map, flatten, append-nil, append_assoc, nil≢cons, cons≢nil, head-eq_of_cons-eq, tail-eq_of_cons-eq}
use Prim.Native.Nat.{ℕ, suc, ◌+◌, ◌-◌}
use native.Mathlib.Omega.{arith}
use Rattle.std.proofs.Math.ListN.{length, get_or, drop}
use Rattle.std.proofs.lemmas.List.{length-map}
use Rattle.std.proofs.Math.Seq.{get_or-append-add}
use Rattle.laws.specs.document.Order.{sort}
use Rattle.laws.specs.Falling.{Falling}
use Rattle.laws.specs.Sorting.{sort_stays}
use Rattle.digit_code.specs.document.Code.{plain, codes}
use Rattle.digit_code.specs.Ends.{Ends}
use Rattle.digit_code.specs.Ordered.{Ordered}
use Rattle.skeleton.specs.IsRooted.{IsRooted}
use Rattle.skeleton.specs.Forest.{Forest, none, tree, count, Rooted}
use Rattle.skeleton.specs.document.Label.{Marks, joinₗ, rootedₗ, digits, labels}
use Rattle.skeleton.specs.Label.{IsRootedₗ}
use Rattle.skeleton.specs.Codes.{branches, rooted-join}
use Rattle.skeleton.specs.Decoding.{width, shape, shape_length, number, number-count, edges_of_forest, marks, marks-digits}
use Rattle.skeleton.specs.Sorted.{Sorted, sorted, sorted_below, sorted_falling, rooted-marks}
use Rattle.skeleton.specs.Right.{read-code, numbered-rooted, numbered_tree}
use Rattle.skeleton.specs.Grow.{rooted_tree}
use Rattle.skeleton.specs.Base.{base, digits-base, is_rooted}
use Rattle.skeleton.specs.General.{decode-code}

module _ (M : Marks) (label : ℕ → M.Label) where
  -- the codes of a forest's trees as they stand
  unfoldable pub strings : Forest → List (List ℕ)
  strings none = []
  strings (tree v d f) = (M.mark (width d) (label v) ∷ flatten (strings d)) ∷ strings f

  pub strings_length : (f : Forest) → length (strings f) ≡ width f
  unfolding strings width
  strings_length none = refl
  strings_length (tree v d f) = ap suc (strings_length f)

  pub strings-marks : (f : Forest) → flatten (strings f) ≡ marks M label f
  unfolding strings marks flatten
  strings-marks none = refl
  strings-marks (tree v d f) = ap₂ (λ l m. M.mark (width d) (label v) ∷ (l ++ m)) (strings-marks d) (strings-marks f)

  -- they are the codes that the forest's marks make
  pub codes_forest : (f : Forest) (ms : List ℕ) → codes M.arity (marks M label f ++ ms) ≡ strings f ++ codes M.arity ms
  unfolding codes marks strings
  codes_forest none ms = refl
  codes_forest (tree v d f) ms =
      let m : ℕ = M.mark (width d) (label v) in
      rw (M.arity_mark (width d) (label v))
      (ap (λ l. (m ∷ flatten (take (width d) l)) ∷ drop (width d) l)
      (ap (codes M.arity) (append_assoc (marks M label d) (marks M label f) ms) ∙ codes_forest d (marks M label f ++ ms) ∙ ap (λ l. strings d ++ l) (codes_forest f ms))
      ∙ ap₂ (λ x y. (m ∷ flatten x) ∷ y)
      (take_at (strings d) (strings f ++ codes M.arity ms) (width d) (strings_length d))
      (drop_at (strings d) (strings f ++ codes M.arity ms) (width d) (strings_length d)))

  pub first-codes : (f : Forest) (ms : List ℕ) → take (width f) (codes M.arity (marks M label f ++ ms)) ≡ strings f
  first-codes f ms = ap (take (width f)) (codes_forest f ms) ∙ take_at (strings f) (codes M.arity ms) (width f) (strings_length f)

  -- the trees below each vertex go down as they stand
  abbrev pub Down : Forest → Type 0
  Down none = Unit {0}
  Down (tree v d f) = Falling (strings d) × Down d × Down f

  pub ordered_forest : (f : Forest) (ms : List ℕ) → Ordered M.arity (marks M label f ++ ms) ↔ (Down f × Ordered M.arity ms)
  unfolding marks
  ordered_forest none ms = (λ o. (tt, o), λ t. t.1)
  ordered_forest (tree v d f) ms = rw (M.arity_mark, append_assoc (marks M label d) (marks M label f) ms, first-codes d (marks M label f ++ ms)) (
    λ (a, o). let (b, p) = (ordered_forest d (marks M label f ++ ms)).0 o in let (c, q) = (ordered_forest f ms).0 p in ((a, b, c), q),
    λ ((a, b, c), q). (a, (ordered_forest d (marks M label f ++ ms)).1 (b, (ordered_forest f ms).1 (c, q))),
  )

  ordered-code : (a : M.Label) (f : Forest) → Ordered M.arity (M.mark (width f) a ∷ marks M label f) ↔ (Falling (strings f) × Down f)
  ordered-code a f =
      let e : take (width f) (codes M.arity (marks M label f)) ≡ strings f = ap (λ l. take (width f) (codes M.arity l)) (sym (append-nil (marks M label f))) ∙ first-codes f [] in
      let o : Ordered M.arity (marks M label f) ↔ (Down f × Unit {0}) = rw append-nil at (ordered_forest f []) in
      rw (M.arity_mark, e) (λ (a, b). (a, (o.0 b).0), λ (a, b). (a, o.1 (b, tt)))

  -- where they go down as they stand, their codes are what stands
  pub down-branches : (f : Forest) → Down f → branches M label f ≡ strings f
  unfolding branches strings joinₗ
  down-branches none o = refl
  down-branches (tree v d f) (h, a, b) =
      let e : branches M label d ≡ strings d = down-branches d a in
      ap₂ (λ x y. x ∷ y)
      (ap (λ x. M.mark (length x) (label v) ∷ flatten (sort x)) e ∙ ap₂ (λ n x. M.mark n (label v) ∷ flatten x) (strings_length d) (sort_stays (strings d) h))
      (down-branches f b)

  pub sorted_down : (f : Forest) → Sorted M label f → Down f
  sorted_down none s = tt
  sorted_down (tree v d f) (h, a, b) = let o : Down d = sorted_down d a in (rw (down-branches d o) at h, o, sorted_down f b)

  -- a numbered forest that goes down as it stands is coded to its marks
  code-down : (f : Forest) → Falling (strings (number 2 f)) → Down (number 2 f)
      → rootedₗ M label (suc (count f)) (edges_of_forest 1 (number 2 f)) 1 ≡ M.mark (width (number 2 f)) (label 1) ∷ marks M label (number 2 f)
  unfolding joinₗ numbered-rooted
  code-down f h o =
      let g : Forest = number 2 f in
      rooted-join M label (suc (count f)) (edges_of_forest 1 g) 1 (numbered-rooted f)
      ∙ ap (joinₗ M (label 1)) (down-branches g o)
      ∙ ap₂ (λ n x. M.mark n (label 1) ∷ x) (strings_length g) (ap flatten (sort_stays (strings g) h) ∙ strings-marks g)

-- ---- marks, read off their digits and labels

pub number-width : (j : ℕ) (f : Forest) → width (number j f) ≡ width f
unfolding width number
number-width j none = refl
number-width j (tree v d f) = ap suc (number-width (suc j + count d) f)

-- marks whose digits are a forest's, and then others, and whose labels are those of j, j + 1 and so on: the forest's marks, numbered from j, and then others
module _ (M : Marks) (l : ℕ → M.Label) where
  pub read-part : (x : List ℕ) (j : ℕ) (f : Forest) (rest : List ℕ) → digits M x ≡ shape f ++ rest → ((i : ℕ) → l (j + i) ≡ M.atom (get_or x i 0))
      → (r : List ℕ) × (x ≡ marks M l (number j f) ++ r) × (digits M r ≡ rest)
  unfolding digits shape number marks
  read-part x j none rest e h = (x, refl, e)
  read-part [] j (tree v d f) rest e h = absurd (nil≢cons e)
  read-part (m ∷ x) j (tree v d f) rest e h =
      let below : (i : ℕ) → l (suc j + i) ≡ M.atom (get_or x i 0) = λ i. (let n : suc j + i ≡ j + suc i = omega arith in ap l n) ∙ h (suc i) in
      let (r, p, g) = read-part x (suc j) d (shape f ++ rest) (tail-eq_of_cons-eq e ∙ append_assoc (shape d) (shape f) rest) below in
      let D : List ℕ = marks M l (number (suc j) d) in
      let long : length D ≡ count d = marks_length (number (suc j) d) ∙ number-count (suc j) d in
      let (s, q, k) = read-part r (suc j + count d) f rest g (λ i.
      (let n : suc j + count d + i ≡ suc j + (length D + i) = omega arith in ap l n) ∙ below (length D + i) ∙ ap M.atom (ap (λ y. get_or y (length D + i) 0) p ∙ get_or-append-add D r i 0)) in
      let F : List ℕ = marks M l (number (suc j + count d) f) in
      let top : m ≡ M.mark (width (number (suc j) d)) (l j) =
      sym (M.mark_of m) ∙ ap₂ M.mark (head-eq_of_cons-eq e ∙ sym (number-width (suc j) d)) (sym (h 0) ∙ (let n : j + 0 ≡ j = omega arith in ap l n)) in
      (s, ap₂ (λ y z. y ∷ z) top (p ∙ ap (λ y. D ++ y) q ∙ sym (append_assoc D F s)), k)
    where
      marks_length : (f : Forest) → length (marks M l f) ≡ count f
      marks_length f = sym (length-map (marks M l f) M.arity) ∙ ap length (marks-digits M l f) ∙ shape_length f

module _ (M : Marks) where
  -- a code's marks are those of the forest that its digits make, with its labels
  read-marks : (c : List ℕ) (f : Forest) → width f ∷ shape f ≡ digits M c → M.mark (width (number 2 f)) (labels M c 1) ∷ marks M (labels M c) (number 2 f) ≡ c
  unfolding digits labels
  read-marks [] f e = absurd (cons≢nil e)
  read-marks (m ∷ x) f e =
      let l : ℕ → M.Label = labels M (m ∷ x) in
      let (r, p, g) = read-part M l x 2 f [] (sym (tail-eq_of_cons-eq e) ∙ sym (append-nil (shape f))) (λ i. let n : 2 + i - 1 ≡ suc i = omega arith in ap (λ k. M.atom (get_or (m ∷ x) k 0)) n) in
      let top : M.mark (width (number 2 f)) (M.atom m) ≡ m = ap (λ k. M.mark k (M.atom m)) (number-width 2 f ∙ head-eq_of_cons-eq e) ∙ M.mark_of m in
      ap₂ (λ y z. y ∷ z) top (sym (p ∙ ap (λ y. marks M l (number 2 f) ++ y) (none_left r g) ∙ append-nil (marks M l (number 2 f))))
    where
      none_left : (r : List ℕ) → map M.arity r ≡ [] → r ≡ []
      none_left [] g = refl
      none_left (k ∷ r) g = absurd (cons≢nil g)

  -- c is a rooted code exactly when its digits end and no child's code is larger than that of the sibling before it
  pub code_orderedₗ : (c : List ℕ) → IsRootedₗ M c ↔ (Ends 1 (digits M c) × Ordered M.arity c)
  code_orderedₗ c = (
    λ x.
        let l : ℕ → M.Label = x.label in
        let t : Rooted x.number x.edges x.root = rooted_tree x.number x.edges x.root x.tree x.inside.0 x.inside.1 in
        let f : Forest = (sorted M l x.number x.edges x.root t).forest in
        let o : Down M l f = sorted_down M l f (sorted_below M l x.number x.edges x.root t) in
        let h : Falling (strings M l f) = rw (down-branches M l f o) at (sorted_falling M l x.number x.edges x.root t) in (
          ((decode-code M c).0 x).0,
          subst (Ordered M.arity) (sym (x.is ∙ rooted-marks M l x.number x.edges x.root t)) ((ordered-code M l (l x.root) f).1 (h, o)),
        ),
    λ (h, o).
        let l : ℕ → M.Label = labels M c in
        let (f, e) = read-code (digits M c) h in
        let r : M.mark (width (number 2 f)) (l 1) ∷ marks M l (number 2 f) ≡ c = read-marks c f e in
        let (a, b) = (ordered-code M l (l 1) (number 2 f)).0 (subst (Ordered M.arity) (sym r) o) in
        record {
          number = suc (count f);
          edges = edges_of_forest 1 (number 2 f);
          label = l;
          root = 1;
          tree = numbered_tree f;
          inside = (omega arith, omega arith);
          is = sym (code-down M l f a b ∙ r);
        },
  )

-- and for document 01's codes
pub code-ordered : (c : List ℕ) → IsRooted c ↔ (Ends 1 c × Ordered plain c)
code-ordered c = iff_trans (is_rooted c) (rw digits-base at (code_orderedₗ base c))
