-- That the edges of every right code are numbered by code: `decoded`. What this says of vertex i is in `document.Decoded`. Here stands what rests on `starts`; the rest
-- is in `specs.Decoded`. Assumes nothing.
use Rattle.std.specs.Prelude.{◌≡◌, refl, take, drop}
use Rattle.std.proofs.Math.Path.{ap, ap₂, sym}
use Rattle.std.proofs.Common.{◌∙◌}
use mathlib.Core.List.{List, [], ◌∷◌, ◌++◌, map, flatten, append_assoc}
use Prim.Native.Nat.{ℕ, zero, suc, ◌+◌, ◌-◌, ◌*◌, ◌≤◌}
use native.Mathlib.Omega.{arith}
use Rattle.std.proofs.Math.ListN.{length, get_or, length-append, length-map}
use Rattle.std.proofs.Math.Seq.{get_or_at}
use Rattle.refusal.specs.document.Table.{Clear}
use Rattle.digit_code.specs.document.Code.{plain, digit, codes, child_codes, decode, digit_rows}
use Rattle.digit_code.specs.Ordered.{Ordered}
use Rattle.digit_code.specs.Two.{map_take, map_drop, codes-digits, digit_at}
use Rattle.skeleton.specs.document.Skeleton.{Arc, arcs, children}
use Rattle.skeleton.specs.IsRooted.{IsRooted}
use Rattle.skeleton.specs.Forest.{Forest, none, tree, count}
use Rattle.skeleton.specs.document.Label.{Marks, codeₗ, digits, labels}
use Rattle.skeleton.specs.Label.{IsRootedₗ}
use Rattle.skeleton.specs.Codes.{roots, codes_of}
use Rattle.skeleton.specs.Decoding.{width, shape, shape_length, number, number-count, edges_of_forest}
use Rattle.skeleton.specs.Right.{read-code}
use Rattle.skeleton.specs.Base.{base, code-base, digits-base, is_rooted, marks-base}
use Rattle.skeleton.specs.Ordered.{strings, strings-marks, down-branches, code_orderedₗ}
use Rattle.skeleton.specs.Accepted.{digits_pass}
use Rattle.numbering.specs.Standing.{bare, Found, find, Known, whole, at-root, at_other, exact_good, its_digit, its_codes, its_arity, marked-codes, marked-down}
use Rattle.numbering.specs.document.Decoded.{IsVertex, begins, parent, starts}
use Rattle.numbering.specs.Decoded.{IsVertexₗ}

starts-roots : (j : ℕ) (f : Forest) → starts j (strings base bare f) ≡ roots (number j f)
unfolding starts strings roots number
starts-roots j none = refl
starts-roots j (tree v d f) =
    let e : j + suc (length (flatten (strings base bare d))) ≡ suc j + count d = omega (arith, ap length (strings-marks base bare d ∙ marks-base bare d), shape_length d) in
    ap (λ l. j ∷ l) (ap (λ n. starts n (strings base bare f)) e ∙ starts-roots (suc j + count d) f)

number-width : (j : ℕ) (f : Forest) → length (roots (number j f)) ≡ width f
unfolding roots number width
number-width j none = refl
number-width j (tree v d f) = ap suc (number-width (suc j + count d) f)

module _ (c : List ℕ) {p i : ℕ} (k : Known c p i) where
  begins-roots : begins c i ≡ roots (number (suc i) k.below)
  unfolding begins
  begins-roots = let e : i + 1 ≡ suc i = omega arith in ap₂ starts e (its_codes c k) ∙ starts-roots (suc i) k.below

  begins_many : length (begins c i) ≡ digit c i
  begins_many = ap length begins-roots ∙ number-width (suc i) k.below ∙ sym (its_digit c k)

module _ (M : Marks) (c : List ℕ) {p i : ℕ} (k : Known (digits M c) p i) where
  begins-coded : Ordered M.arity c → map (codeₗ M (labels M c) (length c) (arcs (decode (digits M c))) i) (begins (digits M c) i) ≡ child_codes M.arity c i
  unfolding digits
  begins-coded o =
      let A : List Arc = arcs (decode (digits M c)) in
      let f : Forest = k.below in
      let n : length c ≡ length k.front + suc (length (shape f) + length k.rest) = sym (length-map c M.arity) ∙ ap length k.digits ∙ (simp length-append) in
      ap (map (codeₗ M (labels M c) (length c) A i)) (begins-roots (digits M c) k)
      ∙ codes_of M (labels M c) A (length c) i (number (suc i) f) (omega (arith, shape_length f, number-count (suc i) f)) (exact_good A i (suc i) f (omega arith) k.near)
      ∙ down-branches M (labels M c) (number (suc i) f) (marked-down M c k o)
      ∙ sym (marked-codes M c k)

module _ (c : List ℕ) (n : ℕ) (y : Found c (decode c) (arcs (decode c)) (suc (suc n))) where
  abbrev others : List ℕ
  others = (edges_of_forest (suc (suc n)) (number (suc (suc (suc n))) y.below) ++ edges_of_forest y.up (number (suc (suc (suc n)) + count y.below) y.aside)) ++ y.part.after

  parent_is : parent c (suc (suc n)) ≡ y.up
  unfolding parent edges_of_forest number
  parent_is =
      ap (λ l. get_or l (2 * n) 0) y.part.edges ∙ get_or_at y.part.before y.up (suc (suc n) ∷ others) 0 (2 * n) (omega (arith, y.part.passed))

  child_is : get_or (decode c) (2 * (suc (suc n) - 2) + 1) 0 ≡ suc (suc n)
  unfolding edges_of_forest number
  child_is =
      ap (λ l. get_or l (2 * (suc (suc n) - 2) + 1) 0) (y.part.edges ∙ sym (append_assoc y.part.before (y.up ∷ []) (suc (suc n) ∷ others)))
      ∙ get_or_at (y.part.before ++ (y.up ∷ [])) (suc (suc n)) others 0 (2 * (suc (suc n) - 2) + 1) (omega (arith, y.part.passed, length-append y.part.before (y.up ∷ [])))

starts-same : (arity : ℕ → ℕ) (j : ℕ) (cs : List (List ℕ)) → starts j (map (map arity) cs) ≡ starts j cs
unfolding starts
starts-same arity j [] = refl
starts-same arity j (c ∷ cs) = ap (λ l. j ∷ l) (ap (λ n. starts (j + n) (map (map arity) cs)) (length-map c arity) ∙ starts-same arity (j + length c) cs)

-- the children's codes of marks begin where those of the digits do
pub begins-marks : (M : Marks) (c : List ℕ) (i : ℕ) → 1 ≤ i → i ≤ length c → begins (digits M c) i ≡ starts (i + 1) (child_codes M.arity c i)
unfolding begins child_codes digits
begins-marks M c i a b =
    let D : List (List ℕ) = codes M.arity (drop i c) in
    let k : ℕ = M.arity (digit c i) in
    ap₂ (λ n l. starts (i + 1) (take n (codes plain l))) (digit_at M.arity c refl (i - 1) (omega arith)) (sym (map_drop M.arity i c))
    ∙ ap (λ l. starts (i + 1) (take k l)) (codes-digits M.arity (drop i c))
    ∙ ap (starts (i + 1)) (sym (map_take (map M.arity) k D))
    ∙ starts-same M.arity (i + 1) (take k D)

module _ (M : Marks) (c : List ℕ) where
  other : (n : ℕ) → Found (digits M c) (decode (digits M c)) (arcs (decode (digits M c))) (suc (suc n)) → Ordered M.arity c → IsVertexₗ M c (suc (suc n))
  unfolding number at_other
  other n y o =
      let ds : List ℕ = digits M c in
      let k : Known ds y.up (suc (suc n)) = at_other ds y in
      record {
        edge = λ l. (rw (parent_is ds n y) y.part.some, rw (parent_is ds n y) y.part.lower, child_is ds n y);
        near = λ l. y.part.near.0 ∙ ap₂ ◌∷◌ (sym (parent_is ds n y)) (sym (begins-roots ds k));
        below = ap (λ p. children (arcs (decode ds)) p (suc (suc n))) (parent_is ds n y) ∙ k.kids ∙ sym (begins-roots ds k);
        many = begins_many ds k ∙ its_digit ds k ∙ sym (its_arity M c k);
        coded = begins-coded M c k o;
      }

  -- every vertex of a rooted code of marks
  pub marks-decoded : IsRootedₗ M c → (i : ℕ) → 1 ≤ i → i ≤ length c → IsVertexₗ M c i
  unfolding parent
  marks-decoded x zero a b = let z : ⊥ = omega arith in absurd z
  marks-decoded x (suc zero) a b =
      let (h, o) = (code_orderedₗ M c).0 x in
      let ds : List ℕ = digits M c in
      let (f, e) = read-code ds h in
      let k : Known ds 0 1 = at-root ds f e in
      record {
        edge = λ l. let z : ⊥ = omega arith in absurd z;
        near = λ l. let z : ⊥ = omega arith in absurd z;
        below = k.kids ∙ sym (begins-roots ds k);
        many = begins_many ds k ∙ its_digit ds k ∙ sym (its_arity M c k);
        coded = begins-coded M c k o;
      }
  marks-decoded x (suc (suc n)) a b =
      let (h, o) = (code_orderedₗ M c).0 x in
      let ds : List ℕ = digits M c in
      let (f, e) = read-code ds h in
      let long : length ds ≡ length c = digits_length in
      other n (find ds (decode ds) (arcs (decode ds)) f (whole ds f e) (suc (suc n)) (omega arith) (omega (arith, ap length e, shape_length f))) o
    where
      digits_length : length (digits M c) ≡ length c
      digits_length = unfold digits in length-map c M.arity

-- every vertex of a rooted code
pub rooted-decoded : (c : List ℕ) → IsRooted c → (i : ℕ) → 1 ≤ i → i ≤ length c → IsVertex c i
rooted-decoded c x i a b =
    let y : IsVertexₗ base c i = marks-decoded base c ((is_rooted c).0 x) i a b in
    record {
      edge = rw digits-base at y.edge;
      near = rw digits-base at y.near;
      below = rw digits-base at y.below;
      many = rw digits-base at y.many;
      coded = sym (λ t. map (λ w. code-base (labels base c) (length c) (arcs (decode c)) i w t) (begins c i)) ∙ (rw digits-base at y.coded);
    }

-- "The vertex of the i-th digit gets number i": in the edges of every code that rows 10 to 13 let pass
pub decoded : (R : ℕ) (c : List ℕ) → Clear (digit_rows R c) → (i : ℕ) → 1 ≤ i → i ≤ length c → IsVertex c i
decoded R c x = rooted-decoded c ((digits_pass R c).0 x).0
