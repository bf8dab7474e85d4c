-- Right rooted codes. Digits that end are a forest's (`read`), so what they decode to is a tree (`decoded_tree`); and a rooted code ends,
-- has a digit for each vertex, and is what its decoded tree is coded to (`decode-code`). Assumes nothing.
use Rattle.std.specs.Prelude.{◌≡◌, refl, ◌⊎◌}
use Rattle.std.proofs.Math.Path.{ap, sym}
use Rattle.std.proofs.Common.{ap₂, ◌∙◌, inl, inr, ⊎_elim, add-zero, arith, length-append}
use mathlib.Core.List.Memᴰ
use mathlib.Core.List.Permᴰ
use mathlib.Core.List.{List, [], ◌∷◌, ◌++◌, append-nil, append_assoc, Memᴰ}
use Prim.Native.Nat.{ℕ, zero, suc, ◌+◌, ◌*◌, ◌≤◌, ◌<◌}
use Rattle.std.proofs.Math.Decide.{ℕ_discrete, dec_lt}
use Rattle.std.proofs.Math.ListN.{length, length-map}
use Rattle.digit_code.specs.document.Code.{sum, decode}
use Rattle.digit_code.specs.Ends.{Ends, ends_sum}
use Rattle.skeleton.specs.document.Skeleton.{Arc, Walk, here, along, IsTree}
use Rattle.skeleton.specs.Forest.{Forest, none, tree, vertices, count, hung, Distinct, Rooted}
use Rattle.skeleton.specs.document.Label.{Marks, rootedₗ, digits, labels}
use Rattle.skeleton.specs.Decoding.{width, shape, shape_length, number, number-count, edges_of_forest, edges-hung, decode_forest, ends_forest}
use Rattle.skeleton.specs.Sorted.{sorted, rooted-digits}
use Rattle.skeleton.specs.Renumber.{same_code}
use Rattle.skeleton.specs.Numbered.{to_decoded}

-- the first k trees of a forest, and the w others
record Cut (g : Forest) (k w : ℕ) : Type 0 where
  first : Forest
  others : Forest
  first_width : width first ≡ k
  others-width : width others ≡ w
  shapes : shape first ++ shape others ≡ shape g

cut : (k w : ℕ) (g : Forest) → width g ≡ k + w → Cut g k w
unfolding width shape
cut zero w g e = record { first = none; others = g; first_width = refl; others-width = omega arith; shapes = refl }
cut (suc k) w none e = let z : ⊥ = omega arith in absurd z
cut (suc k) w (tree v d g) e =
    let c : Cut g k w = cut k w g (omega arith) in
    record {
      first = tree v d c.first;
      others = c.others;
      first_width = ap suc c.first_width;
      others-width = c.others-width;
      shapes = ap (λ l. width d ∷ l) (append_assoc (shape d) (shape c.first) (shape c.others) ∙ ap (λ l. shape d ++ l) c.shapes);
    }

-- digits that end are a forest's
read : (ds : List ℕ) (w : ℕ) → Ends w ds → (f : Forest) × (width f ≡ w) × (shape f ≡ ds)
unfolding width shape
read [] zero h = (none, refl, refl)
read [] (suc w) h = absurd h
read (k ∷ ds) zero h = absurd h
read (k ∷ ds) (suc w) h =
    let (g, a, b) = read ds (k + w) h in
    let c : Cut g k w = cut k w g a in
    (tree 0 c.first c.others, ap suc c.others-width, ap₂ (λ n l. n ∷ l) c.first_width (c.shapes ∙ b))

pub read-code : (c : List ℕ) → Ends 1 c → (f : Forest) × (width f ∷ shape f ≡ c)
read-code [] h = absurd h
read-code (k ∷ ds) h = let (f, a, b) = read ds (k + 0) h in (f, ap₂ (λ n l. n ∷ l) (a ∙ add-zero k) b)

-- the numbers of a forest that is numbered from j: j and so on, each once
pub number_in : (v j : ℕ) (f : Forest) → Memᴰ v (vertices (number j f)) → (j ≤ v) × (v < j + count f)
unfolding number vertices count
number_in v j none m = absurd (Memᴰ.not-nil m)
number_in v j (tree u d f) (Memᴰ.head e) = omega arith
number_in v j (tree u d f) (Memᴰ.tail m) = step (Memᴰ.append_cases (vertices (number (suc j) d)) m) (number_in v (suc j) d) (number_in v (suc j + count d) f)
  where
    step : Memᴰ v (vertices (number (suc j) d)) ⊎ Memᴰ v (vertices (number (suc j + count d) f)) → (Memᴰ v (vertices (number (suc j) d)) → (suc j ≤ v) × (v < suc j + count d))
        → (Memᴰ v (vertices (number (suc j + count d) f)) → (suc j + count d ≤ v) × (v < suc j + count d + count f)) → (j ≤ v) × (v < j + suc (count d + count f))
    step (inl h) a b = omega (arith, a h)
    step (inr h) a b = omega (arith, b h)

number-all : (v j : ℕ) (f : Forest) → j ≤ v → v < j + count f → Memᴰ v (vertices (number j f))
unfolding number vertices count
number-all v j none a b = let z : ⊥ = omega arith in absurd z
number-all v j (tree u d f) a b = step (ℕ_discrete v j) (dec_lt v (suc j + count d)) (number-all v (suc j) d) (number-all v (suc j + count d) f)
  where
    step : Dec (v ≡ j) → Dec (v < suc j + count d) → (suc j ≤ v → v < suc j + count d → Memᴰ v (vertices (number (suc j) d)))
        → (suc j + count d ≤ v → v < suc j + count d + count f → Memᴰ v (vertices (number (suc j + count d) f)))
        → Memᴰ v (j ∷ (vertices (number (suc j) d) ++ vertices (number (suc j + count d) f)))
    step (yes e) l x y = Memᴰ.head e
    step (no e) (yes l) x y = Memᴰ.tail (Memᴰ.append_left (vertices (number (suc j + count d) f)) (x (omega arith) l))
    step (no e) (no l) x y = Memᴰ.tail (Memᴰ.append_right (vertices (number (suc j) d)) (y (omega arith) (omega arith)))

pub number_distinct : (j : ℕ) (f : Forest) → Distinct (number j f)
unfolding number
number_distinct j none = tt
number_distinct j (tree v d f) = (
  λ h. let z : ⊥ = omega (arith, number_in j (suc j) d h) in z,
  λ h. let z : ⊥ = omega (arith, number_in j (suc j + count d) f h) in z,
  λ w h k. let z : ⊥ = omega (arith, number_in w (suc j) d h, number_in w (suc j + count d) f k) in z,
  number_distinct (suc j) d,
  number_distinct (suc j + count d) f,
)

pub edges_length : (p : ℕ) (f : Forest) → length (edges_of_forest p f) ≡ 2 * count f
unfolding edges_of_forest count
edges_length p none = refl
edges_length p (tree v d f) = omega (arith, length-append (edges_of_forest v d) (edges_of_forest p f), edges_length v d, edges_length p f)

edges_in : (x p : ℕ) (f : Forest) → Memᴰ x (edges_of_forest p f) → Memᴰ x (p ∷ vertices f)
unfolding edges_of_forest vertices
edges_in x p none m = absurd (Memᴰ.not-nil m)
edges_in x p (tree v d f) (Memᴰ.head e) = Memᴰ.head e
edges_in x p (tree v d f) (Memᴰ.tail (Memᴰ.head e)) = Memᴰ.tail (Memᴰ.head e)
edges_in x p (tree v d f) (Memᴰ.tail (Memᴰ.tail m)) = ⊎_elim
    (λ h. Memᴰ.tail (Memᴰ.append_left (vertices f) (edges_in x v d h)))
    (λ h. ⊎_elim (λ e. Memᴰ.head e) (λ k. Memᴰ.tail (Memᴰ.tail (Memᴰ.append_right (vertices d) k))) (Memᴰ.cases_cons (edges_in x p f h)))
    (Memᴰ.append_cases (edges_of_forest v d) m)

-- from the parent of a forest's roots a walk leads to each of its vertices
walk-down : (A : List Arc) (p v : ℕ) (f : Forest) → ((e : Arc) → Memᴰ e (hung p f) → Memᴰ e A) → Memᴰ v (vertices f) → Walk A p v
unfolding hung vertices
walk-down A p v none s m = absurd (Memᴰ.not-nil m)
walk-down A p v (tree u d f) s (Memᴰ.head e) = along (s (p, v) (Memᴰ.head (ap (λ x. (p, x)) e))) here
walk-down A p v (tree u d f) s (Memᴰ.tail m) = ⊎_elim
    (λ h. along (s (p, u) (Memᴰ.head refl)) (walk-down A u v d (λ e k. s e (Memᴰ.tail (Memᴰ.tail (Memᴰ.append_left (hung p f) k)))) h))
    (λ h. walk-down A p v f (λ e k. s e (Memᴰ.tail (Memᴰ.tail (Memᴰ.append_right (hung u d) k)))) h)
    (Memᴰ.append_cases (vertices d) m)

pub in_range : (f : Forest) (v : ℕ) → Memᴰ v (1 ∷ vertices (number 2 f)) → (1 ≤ v) × (v ≤ suc (count f))
in_range f v (Memᴰ.head e) = omega arith
in_range f v (Memᴰ.tail m) = omega (arith, number_in v 2 f m)

pub range_in : (f : Forest) (v : ℕ) → 1 ≤ v → v ≤ suc (count f) → Memᴰ v (1 ∷ vertices (number 2 f))
range_in f v a b = step (ℕ_discrete v 1)
  where
    step : Dec (v ≡ 1) → Memᴰ v (1 ∷ vertices (number 2 f))
    step (yes e) = Memᴰ.head e
    step (no n) = Memᴰ.tail (number-all v 2 f (omega arith) (omega arith))

-- the tree that a forest's digits decode to
pub numbered_tree : (f : Forest) → IsTree (suc (count f)) (edges_of_forest 1 (number 2 f))
numbered_tree f = record {
  edges = omega (arith, edges_length 1 (number 2 f), number-count 2 f);
  inside = λ v m. in_range f v (edges_in v 1 (number 2 f) m);
  linked = λ v a b. rw (edges-hung 1 (number 2 f)) (⊎_elim (λ e. rw e here) (walk-down (hung 1 (number 2 f)) 1 v (number 2 f) (λ e m. m)) (Memᴰ.cases_cons (range_in f v a b)));
}

unfoldable pub numbered-rooted : (f : Forest) → Rooted (suc (count f)) (edges_of_forest 1 (number 2 f)) 1
numbered-rooted f = record {
  forest = number 2 f;
  same = rw (edges-hung 1 (number 2 f)) (Permᴰ.refl (hung 1 (number 2 f)));
  apart = λ h. let z : ⊥ = omega (arith, number_in 1 2 f h) in z;
  distinct = number_distinct 2 f;
  inside = in_range f;
  all = range_in f;
  full = ap suc (number-count 2 f);
}

tree_of : (c : List ℕ) (f : Forest) → width f ∷ shape f ≡ c → IsTree (length c) (decode c)
tree_of c f e = rw (← e, decode_forest, shape_length) (numbered_tree f)

-- digits that end decode to a tree
pub decoded_tree : (c : List ℕ) → Ends 1 c → IsTree (length c) (decode c)
decoded_tree c h = let (f, e) = read-code c h in tree_of c f e

module _ (M : Marks) (N : ℕ) (E : List ℕ) (r : ℕ) (l : ℕ → M.Label) (t : Rooted N E r) where
  pub code_ends : Ends 1 (digits M (rootedₗ M l N E r))
  code_ends =
      let f : Forest = (sorted M l N E r t).forest in
      rw (rooted-digits M l N E r t, ← append-nil (shape f)) (ends_forest f 0 [] tt)

  pub code-size : length (rootedₗ M l N E r) ≡ N
  unfolding digits
  code-size =
      let f : Forest = (sorted M l N E r t).forest in
      sym (length-map (rootedₗ M l N E r) M.arity) ∙ ap length (rooted-digits M l N E r t) ∙ ap suc (shape_length f) ∙ (sorted M l N E r t).full

  pub code_sum : sum (digits M (rootedₗ M l N E r)) + 1 ≡ N
  unfolding digits
  code_sum = ends_sum 1 (digits M (rootedₗ M l N E r)) code_ends ∙ length-map (rootedₗ M l N E r) M.arity ∙ code-size

  -- a rooted code, decoded and coded again at vertex 1, is itself
  pub decode-code :
      let c = rootedₗ M l N E r in rootedₗ M (labels M c) (length c) (decode (digits M c)) 1 ≡ c
  decode-code =
      let c : List ℕ = rootedₗ M l N E r in
      let (ρ, a, k) = to_decoded M N E r l t in
      ap₂ (λ n v. rootedₗ M (labels M c) n (decode (digits M c)) v) code-size (sym a) ∙ sym (same_code M N E (decode (digits M c)) r l (labels M c) t ρ k)
