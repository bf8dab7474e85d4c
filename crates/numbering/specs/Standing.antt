-- Where each vertex stands in what a code decodes to, on forests: for the proofs of `Decoded` alone.
--
-- In order: the neighbours of each vertex as they are listed; a forest that is numbered from j, as a part of the digits and of the edges; the
-- vertex i found in it; what is then known of vertex i, by the digits alone and by marks of which they are the digits. Assumes nothing.
use Rattle.std.specs.Prelude.{◌≡◌}
use Rattle.std.proofs.Math.Path.{refl, ap, ap₂, sym}
use Rattle.std.proofs.Common.{◌∙◌, subst, get_or-drop, drop_at}
use mathlib.Core.List.Permᴰ
use mathlib.Core.List.{List, [], ◌∷◌, ◌++◌, map, append-nil, append_assoc, Memᴰ}
use Prim.Native.Nat.{ℕ, zero, suc, ◌+◌, ◌-◌, ◌*◌, ◌≤◌, ◌<◌}
use Rattle.std.proofs.Math.Decide.{ℕ_discrete, dec_lt}
use native.Mathlib.Omega.{arith}
use Rattle.std.proofs.Math.ListN.{length, get_or, take, drop, length-append}
use Rattle.std.proofs.lemmas.List.{length-map, get_or_at}
use Rattle.digit_code.specs.document.Code.{plain, codes, child_codes, digit, decode}
use Rattle.digit_code.specs.Ordered.{Ordered}
use Rattle.digit_code.specs.Two.{map_drop, digit_at}
use Rattle.skeleton.specs.document.Skeleton.{Arc, arcs, neighbours, children}
use Rattle.skeleton.specs.Forest.{Forest, none, tree, vertices, count, hung}
use Rattle.skeleton.specs.document.Label.{Marks, digits, labels}
use Rattle.skeleton.specs.Codes.{roots, root_in, neighbours-none, neighbours_past, neighbours-append, far, near, full, Good, but, but-none, but_first}
use Rattle.skeleton.specs.Decoding.{width, shape, shape_length, number, number-count, edges_of_forest, edges-hung, decode_forest, marks}
use Rattle.skeleton.specs.Right.{number_in, edges_length}
use Rattle.skeleton.specs.Base.{base, marks-base}
use Rattle.skeleton.specs.Ordered.{strings, first-codes, Down, ordered_forest, number-width, read-part}

-- no labels
abbrev pub bare : ℕ → Unit {0}
bare v = tt

-- ---- neighbours

-- in the arcs A each vertex of f has its parent and then its children for neighbours; p is the parent of the roots
abbrev pub Exact : List Arc → ℕ → Forest → Type 0
Exact A p none = Unit {0}
Exact A p (tree v d f) = (neighbours A v ≡ p ∷ roots d) × Exact A v d × Exact A p f

-- none of the n numbers from j on has a neighbour in A
abbrev Strange : List Arc → ℕ → ℕ → Type 0
Strange A j n = (w : ℕ) → j ≤ w → w < j + n → neighbours A w ≡ []

pub root_high : (v j : ℕ) (f : Forest) → v < j → Memᴰ v (roots (number j f)) → ⊥
root_high v j f l m = let z : ⊥ = omega (arith, number_in v j f (root_in (number j f) m)) in z

exact : (A X Y : List Arc) (p j : ℕ) (f : Forest) → A ≡ X ++ (hung p (number j f) ++ Y) → p < j → Strange X j (count f) → Strange Y j (count f) → Exact A p (number j f)
unfolding hung number count vertices
exact A X Y p j none e l x y = tt
exact A X Y p j (tree v d f) e l x y =
    let D : Forest = number (suc j) d in
    let F : Forest = number (suc j + count d) f in
    let none-d : (w : ℕ) → w < suc j → Memᴰ w (vertices D) → ⊥ = λ w g m. let z : ⊥ = omega (arith, number_in w (suc j) d m) in z in
    let none-f : (w : ℕ) → w < suc j + count d → Memᴰ w (vertices F) → ⊥ = λ w g m. let z : ⊥ = omega (arith, number_in w (suc j + count d) f m) in z in
    let past-d : (w : ℕ) → suc j + count d ≤ w → Memᴰ w (vertices D) → ⊥ = λ w g m. let z : ⊥ = omega (arith, number_in w (suc j) d m) in z in (
      ap (λ B. neighbours B j) e
          ∙ neighbours-append X (hung p (tree j D F) ++ Y) j
          ∙ ap₂ ◌++◌ (x j (omega arith) (omega arith))
          (full p j D F Y (λ q. let z : ⊥ = omega arith in z) (none-d j (omega arith)) (none-f j (omega arith)) (y j (omega arith) (omega arith))),
      exact A (X ++ ((p, j) ∷ (j, p) ∷ [])) (hung p F ++ Y) j (suc j) d (e ∙ (simp append_assoc)) (omega arith)
          (λ w g h. cc (
            neighbours-append X ((p, j) ∷ (j, p) ∷ []) w,
            x w (omega arith) (omega arith),
            neighbours_past p w j ((j, p) ∷ []) (λ q. let z : ⊥ = omega arith in z),
            neighbours_past j w p [] (λ q. let z : ⊥ = omega arith in z),
            neighbours-none w,
          ))
          (λ w g h. cc (
            neighbours-append (hung p F) Y w,
            far w p F (λ q. let z : ⊥ = omega arith in z) (none-f w h),
            y w (omega arith) (omega arith),
          )),
      exact A (X ++ ((p, j) ∷ (j, p) ∷ hung j D)) Y p (suc j + count d) f (e ∙ (simp append_assoc)) (omega arith)
          (λ w g h. cc (
            neighbours-append X ((p, j) ∷ (j, p) ∷ hung j D) w,
            x w (omega arith) (omega arith),
            neighbours_past p w j ((j, p) ∷ hung j D) (λ q. let z : ⊥ = omega arith in z),
            neighbours_past j w p (hung j D) (λ q. let z : ⊥ = omega arith in z),
            far w j D (λ q. let z : ⊥ = omega arith in z) (past-d w g),
          ))
          (λ w g h. y w (omega arith) (omega arith)),
    )

pub exact_good : (A : List Arc) (p j : ℕ) (f : Forest) → p < j → Exact A p (number j f) → Good A p (number j f)
unfolding number
exact_good A p j none l x = tt
exact_good A p j (tree v d f) l (e, x, y) = (
  rw e (Permᴰ.refl (p ∷ roots (number (suc j) d))),
  root_high p (suc j) d (omega arith),
  exact_good A j (suc j) d (omega arith) x,
  exact_good A p (suc j + count d) f (omega arith) y,
)

-- ---- a part of the digits and of the edges

module _ (c E : List ℕ) (A : List Arc) where
  -- the digits from j on are those of f, and the edges from j - 1 on are its edges where it hangs under p
  pub record Part (p j : ℕ) (f : Forest) : Type 0 where
    pub front : List ℕ
    pub rest : List ℕ
    pub digits : c ≡ front ++ (shape f ++ rest)
    pub place : suc (length front) ≡ j
    pub before : List ℕ
    pub after : List ℕ
    pub edges : E ≡ before ++ (edges_of_forest p (number j f) ++ after)
    pub passed : length before + 4 ≡ 2 * j
    pub some : 1 ≤ p
    pub lower : p < j
    pub near : Exact A p (number j f)

  module _ {p j v : ℕ} {d f : Forest} (x : Part p j (tree v d f)) where
    -- what hangs at its first vertex
    inner : Part j (suc j) d
    unfolding shape number edges_of_forest
    inner = record {
      front = x.front ++ (width d ∷ []);
      rest = shape f ++ x.rest;
      digits = x.digits ∙ (simp append_assoc);
      place = omega (arith, x.place, length-append x.front (width d ∷ []));
      before = x.before ++ (p ∷ j ∷ []);
      after = edges_of_forest p (number (suc j + count d) f) ++ x.after;
      edges = x.edges ∙ (simp append_assoc);
      passed = omega (arith, x.passed, length-append x.before (p ∷ j ∷ []));
      some = omega (arith, x.some, x.lower);
      lower = omega arith;
      near = x.near.1;
    }

    -- the trees beside that
    beside : Part p (suc j + count d) f
    unfolding shape number edges_of_forest
    beside = record {
      front = x.front ++ (width d ∷ shape d);
      rest = x.rest;
      digits = x.digits ∙ (simp append_assoc);
      place = omega (arith, x.place, length-append x.front (width d ∷ shape d), shape_length d);
      before = x.before ++ (p ∷ j ∷ edges_of_forest j (number (suc j) d));
      after = x.after;
      edges = x.edges ∙ (simp append_assoc);
      passed = omega (arith, x.passed, length-append x.before (p ∷ j ∷ edges_of_forest j (number (suc j) d)), edges_length j (number (suc j) d), number-count (suc j) d);
      some = x.some;
      lower = omega (arith, x.lower);
      near = x.near.2;
    }

  -- a vertex: a forest's first, and what hangs there
  pub record Found (i : ℕ) : Type 0 where
    pub up : ℕ
    pub old : ℕ
    pub below : Forest
    pub aside : Forest
    pub part : Part up i (tree old below aside)

  pub find : {p j : ℕ} (f : Forest) → Part p j f → (i : ℕ) → j ≤ i → i < j + count f → Found i
  unfolding count
  find none x i a b = let z : ⊥ = omega arith in absurd z
  find {p} {j} (tree v d f) x i a b = step (ℕ_discrete i j) (dec_lt i (suc j + count d)) (find {p = j} {j = suc j} d (inner x) i) (find {p = p} {j = suc j + count d} f (beside x) i)
    where
      step : Dec (i ≡ j) → Dec (i < suc j + count d) → (suc j ≤ i → i < suc j + count d → Found i) → (suc j + count d ≤ i → i < suc j + count d + count f → Found i) → Found i
      step (yes e) l g h = record { up = p; old = v; below = d; aside = f; part = rw e x }
      step (no n) (yes l) g h = g (omega arith) l
      step (no n) (no l) g h = h (omega arith) (omega arith)

-- ---- what is known of a vertex

module _ (c : List ℕ) where
  abbrev A : List Arc
  A = arcs (decode c)

  -- of vertex i, where p is its parent: what hangs below it, by its digit and by its neighbours
  pub record Known (p i : ℕ) : Type 0 where
    pub below : Forest
    pub front : List ℕ
    pub rest : List ℕ
    pub digits : c ≡ front ++ (width below ∷ (shape below ++ rest))
    pub place : suc (length front) ≡ i
    pub kids : children A p i ≡ roots (number (suc i) below)
    pub near : Exact A i (number (suc i) below)

  module _ (f : Forest) (e : width f ∷ shape f ≡ c) where
    edges_are : decode c ≡ edges_of_forest 1 (number 2 f)
    edges_are = ap decode (sym e) ∙ decode_forest f

    arcs_are : A ≡ hung 1 (number 2 f)
    arcs_are = ap arcs edges_are ∙ edges-hung 1 (number 2 f)

    pub whole : Part c (decode c) A 1 2 f
    whole = record {
      front = width f ∷ [];
      rest = [];
      digits = sym e ∙ (rw append-nil);
      place = refl;
      before = [];
      after = [];
      edges = edges_are ∙ (rw append-nil);
      passed = refl;
      some = omega arith;
      lower = omega arith;
      near = exact A [] [] 1 2 f (arcs_are ∙ (rw append-nil)) (omega arith) (λ w a b. neighbours-none w) (λ w a b. neighbours-none w);
    }

    pub at-root : Known 0 1
    unfolding children
    at-root = record {
      below = f;
      front = [];
      rest = [];
      digits = sym e ∙ (rw append-nil);
      place = refl;
      kids =
          ap (λ l. but 0 l) (ap (λ B. neighbours B 1) arcs_are ∙ near 1 (number 2 f) (λ m. let z : ⊥ = omega (arith, number_in 1 2 f m) in z))
          ∙ but-none 0 (roots (number 2 f)) (root_high 0 2 f (omega arith));
      near = whole.near;
    }

  unfoldable pub at_other : {i : ℕ} (y : Found c (decode c) A i) → Known y.up i
  unfolding children shape number
  at_other {i} y = record {
    below = y.below;
    front = y.part.front;
    rest = shape y.aside ++ y.part.rest;
    digits = y.part.digits ∙ (simp append_assoc);
    place = y.part.place;
    kids =
        ap (λ l. but y.up l) y.part.near.0
        ∙ but_first y.up (roots (number (suc i) y.below)) (root_high y.up (suc i) y.below (omega (arith, y.part.lower)));
    near = y.part.near.1;
  }

  -- its digit, and the codes that begin behind it
  module _ {p i : ℕ} (k : Known p i) where
    pub its_digit : digit c i ≡ width k.below
    its_digit =
        ap₂ (λ l n. get_or l n 0) k.digits (let n : i - 1 ≡ length k.front = omega (arith, k.place) in n)
        ∙ get_or_at k.front (width k.below) (shape k.below ++ k.rest) 0 (length k.front) refl

    behind : drop (suc (length k.front)) c ≡ shape k.below ++ k.rest
    behind =
        let n : length (k.front ++ (width k.below ∷ [])) ≡ suc (length k.front) = omega (arith, length-append k.front (width k.below ∷ [])) in
        ap (drop (suc (length k.front))) (k.digits ∙ (sym (append_assoc k.front (width k.below ∷ []) (shape k.below ++ k.rest))))
        ∙ drop_at (k.front ++ (width k.below ∷ [])) (shape k.below ++ k.rest) (suc (length k.front)) n

    -- the codes that its digits make
    first : take (width k.below) (codes plain (shape k.below ++ k.rest)) ≡ strings base bare k.below
    first = rw marks-base at (first-codes base bare k.below k.rest)

    pub its_codes : child_codes plain c i ≡ strings base bare k.below
    unfolding child_codes
    its_codes =
        ap₂ (λ n l. take n (codes plain l)) its_digit (ap (λ n. drop n c) (sym k.place) ∙ behind)
        ∙ first

-- ---- where the digits are of marks

ordered_drop : (arity : ℕ → ℕ) (n : ℕ) (c : List ℕ) → Ordered arity c → Ordered arity (drop n c)
ordered_drop arity zero c o = o
ordered_drop arity (suc n) [] o = o
ordered_drop arity (suc n) (m ∷ c) o = ordered_drop arity n c o.1

module _ (M : Marks) (c : List ℕ) {p i : ℕ} (k : Known (digits M c) p i) where
  -- what hangs below vertex i, by its numbers
  abbrev pub hangs : Forest
  hangs = number (suc i) k.below

  -- the marks behind its own are first those
  marked : (r : List ℕ) × (drop i c ≡ marks M (labels M c) hangs ++ r)
  unfolding digits labels
  marked =
      let e : map M.arity (drop i c) ≡ shape k.below ++ k.rest = map_drop M.arity i c ∙ ap (λ n. drop n (map M.arity c)) (sym k.place) ∙ behind (map M.arity c) k in
      let (r, q, g) = read-part M (labels M c) (drop i c) (suc i) k.below k.rest e
      (λ j. let n : suc i + j - 1 ≡ i + j = omega arith in ap M.atom (ap (λ t. get_or c t 0) n ∙ sym (get_or-drop i c j 0))) in
      (r, q)

  pub its_arity : M.arity (digit c i) ≡ width k.below
  unfolding digits
  its_arity =
      let n : length c ≡ length k.front + suc (length (shape k.below) + length k.rest) = sym (length-map c M.arity) ∙ ap length k.digits ∙ (simp length-append) in
      sym (digit_at M.arity c refl (i - 1) (omega (arith, k.place))) ∙ its_digit (map M.arity c) k

  -- its children's codes
  pub marked-codes : child_codes M.arity c i ≡ strings M (labels M c) hangs
  unfolding child_codes
  marked-codes =
      let (r, q) = marked in
      ap₂ (λ n l. take n (codes M.arity l)) (its_arity ∙ sym (number-width (suc i) k.below)) q ∙ first-codes M (labels M c) hangs r

  -- which go down, there and below, where the marks are ordered
  pub marked-down : Ordered M.arity c → Down M (labels M c) hangs
  marked-down o = let (r, q) = marked in ((ordered_forest M (labels M c) hangs r).0 (subst (λ x. Ordered M.arity x) q (ordered_drop M.arity i c o))).0
