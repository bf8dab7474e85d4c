-- Whether a vertex before it is like a vertex, by the parents and the ends of the parts that are known, and by the classes that stand.
--
-- In order: what the digits tell of the marks; the array of the parents; the root; another vertex. Assumes nothing.
use mathlib.Core.Path.{◌≡◌, sym, ap, ap₂, ◌∙◌}
use mathlib.Core.Bool.{Bool, true, false}
use mathlib.Core.List.{List, [], ◌∷◌, head-eq_of_cons-eq, tail-eq_of_cons-eq}
use Prim.Native.Nat.{ℕ, zero, suc, ◌+◌, ◌-◌, ◌*◌, ◌≤◌, ◌<◌}
use native.Mathlib.Numerals.{add-one}
use native.Mathlib.Omega.{arith}
use lib.ListN.{length, get_or, take, drop, get_or-append}
use lib.Seq.{get_or-take}
use Rattle.laws.specs.document.Laid.{laid_over, Laid}
use Rattle.laws.specs.Laid.{laid_length}
use Rattle.laws.specs.Part.{part, part_none, part_cons}
use Rattle.laws.specs.Tells.{Tells, holds, denies}
use Rattle.limits.specs.document.Limits.{size}
use Rattle.digit_code.specs.document.Code.{plain, decode}
use Rattle.digit_code.specs.Parts.{Ending}
use Rattle.digit_code.specs.Search.{Known}
use Rattle.digit_code.specs.Ends.{Ends}
use Rattle.digit_code.specs.Two.{as_long, known-marks}
use Rattle.skeleton.specs.document.Label.{digits}
use Rattle.skeleton.specs.document.AtomMarks.{atoms}
use Rattle.skeleton.specs.Label.{IsRootedₗ}
use Rattle.skeleton.specs.General.{decode-code}
use Rattle.numbering.specs.document.Decoded.{parent}
use Rattle.orbits.specs.document.Numbering.{class}
use Rattle.orbits.specs.Parents.{subtreeₗ, tree_ofₗ, parent_lowₗ}
use Rattle.orbits.specs.Half.{restₗ}
use Rattle.vertices.specs.Search.{Above, Turns, Test}
use Rattle.vertices.proofs.Parts.{subtree_part, subtree_long}

-- ---- the digits of the marks

module _ {ds c : List ℕ} (e : ds ≡ digits atoms c) (x : IsRootedₗ atoms c) where
  -- they end
  pub digits-end : Ends 1 ds
  digits-end = rw e ((decode-code atoms c).0 x).0

  -- there are as many as marks
  pub digits_few : length c ≤ size → length ds ≤ size
  unfolding digits
  digits_few h = omega (arith, as_long atoms.arity c e)

  -- the ends of the parts that they tell are the marks' own
  pub ends_known : {ends : List ℕ} → Known plain ds ends 0 → Known atoms.arity c ends 0
  unfolding digits
  ends_known k = known-marks e k

  -- ---- the array of the parents

  -- the edges fit
  pub edges_fit : length c ≤ size → length (decode ds) ≤ 2 * (size - 1)
  edges_fit h = rw e (omega (arith, (tree_ofₗ atoms c x).edges))

  -- written, they are the parents
  pub above-all : {old edges : List ℕ} {r : ℕ} → length c ≤ size → length old ≡ 2 * (size - 1) → Laid (decode ds) old edges r → Above c edges
  unfolding parent laid_over
  above-all {old} {edges} h l k = record { right = x; long = ap length k.lies ∙ laid_length (decode ds) old (omega (arith, edges_fit h)) ∙ l; each = at }
    where
      at : (i : ℕ) → 1 ≤ i → i < length c → get_or edges (i + i - 2) 0 ≡ parent (digits atoms c) (suc i)
      at zero a b = let z : ⊥ = omega arith in absurd z
      at (suc i) a b =
          let j : suc i + suc i - 2 ≡ 2 * i = omega arith in
          ap (λ (n : ℕ). get_or edges n 0) j
          ∙ ap (λ (s : List ℕ). get_or s (2 * i) 0) k.lies
          ∙ get_or-append (decode ds) (drop (length (decode ds)) old) 0 (2 * i) (rw e (omega (arith, (tree_ofₗ atoms c x).edges)))
          ∙ ap (λ (d : List ℕ). get_or (decode d) (2 * i) 0) e

module _ {c edges : List ℕ} (a : Above c edges) where
  -- a parent stands before its child
  pub parent-before : (i : ℕ) → 1 ≤ i → i < length c → (1 ≤ get_or edges (i + i - 2) 0) × (get_or edges (i + i - 2) 0 ≤ i)
  parent-before i h l = let (p, q) = parent_lowₗ atoms c a.right (suc i) (omega arith) l in (omega (arith, a.each i h l), omega (arith, a.each i h l))

  -- ---- the root

  module _ {v : ℕ} (o : 1 ≤ v) (l : v < length c) where
    pub no_child : (get_or edges (v + v - 2) 0 ≡ 1 → ⊥) → Tells (Turns c (suc v)) false
    no_child n = denies (λ h. n (a.each v o l ∙ h.0))

    pub halves_decide : {r : Bool} → get_or edges (v + v - 2) 0 ≡ 1 → Tells (subtreeₗ atoms c (suc v) ≡ restₗ atoms c (suc v)) r → Tells (Turns c (suc v)) r
    halves_decide e (holds h) = holds (sym (a.each v o l) ∙ e, h)
    halves_decide e (denies n) = denies (λ h. n h.1)

  -- ---- another vertex

  module _ (known : List ℕ) {ends : List ℕ} {u v : ℕ} (k : Known atoms.arity c ends 0) (o : 1 ≤ u) (m : u < v) (l : v < length c) where
    -- the class of the parent of the vertex of mark i, where it stands
    abbrev above : ℕ → ℕ
    above i = get_or known (get_or edges (i + i - 2) 0 - 1) 0

    above_is : (i : ℕ) → 1 ≤ i → i ≤ v → class (take v known) (parent (digits atoms c) (suc i)) ≡ above i
    above_is i h j =
        let (p, q) = parent-before i h (omega arith) in
        ap (class (take v known)) (sym (a.each i h (omega arith))) ∙ get_or-take v known (get_or edges (i + i - 2) 0 - 1) 0 (omega arith)

    ending : (i : ℕ) → i < length c → Ending atoms.arity c i (get_or ends i 0)
    ending i h = k.ending i (omega arith) h

    -- the test of a vertex that is not the root, by what stands in the arrays
    told_by : {r : Bool} → Tells ((above u ≡ above v) × (subtreeₗ atoms c (suc u) ≡ subtreeₗ atoms c (suc v))) r → Tells (Test c (take v known) (suc u) (suc v)) r
    told_by = by u o (above_is u o (omega arith)) (above_is v (omega arith) (omega arith))
      where
        by : {x y : ℕ} (i : ℕ) → 1 ≤ i → class (take v known) (parent (digits atoms c) (suc i)) ≡ x → class (take v known) (parent (digits atoms c) (suc v)) ≡ y
            → {r : Bool} → Tells ((x ≡ y) × (subtreeₗ atoms c (suc i) ≡ subtreeₗ atoms c (suc v))) r → Tells (Test c (take v known) (suc i) (suc v)) r
        by zero h e f t = let z : ⊥ = omega arith in absurd z
        by (suc i) h e f (holds (p, q)) = holds (e ∙ p ∙ sym f, q)
        by (suc i) h e f (denies n) = denies (λ g. n (sym e ∙ g.0 ∙ f, g.1))

    pub parents_differ : (above u ≡ above v → ⊥) → Tells (Test c (take v known) (suc u) (suc v)) false
    parents_differ n = told_by (denies (λ h. n h.0))

    pub lengths_differ : (get_or ends u 0 - u ≡ get_or ends v 0 - v → ⊥) → Tells (Test c (take v known) (suc u) (suc v)) false
    lengths_differ n = told_by (denies (λ h. n (sym (subtree_long (ending u (omega arith))) ∙ ap length h.1 ∙ subtree_long (ending v l))))

    -- where the parents are of one class, the codes decide
    pub codes_decide : {r : Bool} → above u ≡ above v → Tells (part u (get_or ends u 0) c ≡ part v (get_or ends v 0) c) r → Tells (Test c (take v known) (suc u) (suc v)) r
    codes_decide e (holds q) = told_by (holds (e, subtree_part (ending u (omega arith)) ∙ q ∙ sym (subtree_part (ending v l))))
    codes_decide e (denies n) = told_by (denies (λ h. n (sym (subtree_part (ending u (omega arith))) ∙ h.1 ∙ subtree_part (ending v l))))

    -- a code by its first mark and the others
    cut : (i : ℕ) → i < length c → part i (get_or ends i 0) c ≡ get_or c i 0 ∷ part (i + 1) (get_or ends i 0) c
    cut i h = part_cons i (get_or ends i 0) c 0 (ending i h).after h ∙ ap (λ (m : ℕ). get_or c i 0 ∷ part m (get_or ends i 0) c) (sym (add-one i))

    pub marks_differ : above u ≡ above v → (get_or c u 0 ≡ get_or c v 0 → ⊥) → Tells (Test c (take v known) (suc u) (suc v)) false
    marks_differ e n = codes_decide e (denies (λ h. n (head-eq_of_cons-eq (sym (cut u (omega arith)) ∙ h ∙ cut v l))))

    -- where the first marks are equal, the others decide
    pub others_decide : {r : Bool} → above u ≡ above v → get_or c u 0 ≡ get_or c v 0 → Tells (part (u + 1) (get_or ends u 0) c ≡ part (v + 1) (get_or ends v 0) c) r
        → Tells (Test c (take v known) (suc u) (suc v)) r
    others_decide e f (holds q) = codes_decide e (holds (cut u (omega arith) ∙ ap₂ ◌∷◌ f q ∙ sym (cut v l)))
    others_decide e f (denies n) = codes_decide e (denies (λ h. n (tail-eq_of_cons-eq (sym (cut u (omega arith)) ∙ h ∙ cut v l))))

    -- a leaf has no others
    none : (i : ℕ) → get_or ends i 0 ≡ i + 1 → part (i + 1) (get_or ends i 0) c ≡ []
    none i s = ap (λ (e : ℕ). part (i + 1) e c) s ∙ part_none (i + 1) c

    pub leaves_alike : above u ≡ above v → get_or c u 0 ≡ get_or c v 0 → get_or ends u 0 - u ≡ get_or ends v 0 - v → get_or ends u 0 ≡ u + 1
        → Tells (Test c (take v known) (suc u) (suc v)) true
    leaves_alike e f n s = others_decide e f (holds (none u s ∙ sym (none v (omega (arith, n, s, (ending v l).after)))))
