-- One order, however the tree is read: marks and children that read one tree right, to any depth that is enough, give the same marks, the same order and the same pairs
-- looked at (`one-order`). Here stands what rests on `insert_by` or `kids_of`; the rest is in `specs.Same`. Assumes nothing.
use Rattle.std.specs.Prelude.{◌≡◌}
use Rattle.std.proofs.Math.Path.{refl, ap, ap₂, sym}
use Rattle.std.proofs.Common.{◌∙◌}
use Rattle.std.proofs.Math.Logic.{ite, ⊎_elim}
use mathlib.Core.List.Permᴰ
use mathlib.Core.List.{List, [], ◌∷◌, map, flatten, Memᴰ}
use Prim.Native.Nat.{ℕ, zero, suc, ◌+◌, ◌≤◌}
use native.Mathlib.Omega.{arith}
use Rattle.laws.specs.document.Order.{dec≽, sort}
use Rattle.laws.specs.Perms.{perm_in}
use Rattle.digit_code.specs.document.Code.{sum}
use Rattle.skeleton.specs.Forest.{Forest, none, tree, vertices, count, Rooted}
use Rattle.skeleton.specs.document.Label.{Marks}
use Rattle.skeleton.specs.Codes.{roots}
use Rattle.numbering.specs.document.Order.{insert_by, sort_by, order_by}
use Rattle.numbering.specs.Order.{pairs, marks_by, pairs_by}
use Rattle.numbering.proofs.Sorted.{sort_by_self, order-marks}
use Rattle.numbering.specs.Turned.{Follows}
use Rattle.numbering.specs.Numbering.{Reads, is_followed, root-kids}
use Rattle.numbering.specs.Numbers.{reads_mark}
use Rattle.numbering.specs.Same.{map_in, Same}

module _ (f g : List ℕ → List ℕ) where
  insert_keys : (c : List ℕ) (l : List (List ℕ)) → f c ≡ g c → ((d : List ℕ) → Memᴰ d l → f d ≡ g d) → insert_by f c l ≡ insert_by g c l
  unfolding insert_by
  insert_keys c [] e h = refl
  insert_keys c (d ∷ ds) e h =
      let k : f d ≡ g d = h d (mathlib.Core.List.Memᴰ.head refl) in
      let r : insert_by f c ds ≡ insert_by g c ds = insert_keys c ds e (λ x m. h x (mathlib.Core.List.Memᴰ.tail m)) in
      λ i. ite (dec≽ (e i) (k i)) (c ∷ d ∷ ds) (d ∷ r i)

  sort_keys : (cs : List (List ℕ)) → ((c : List ℕ) → Memᴰ c cs → f c ≡ g c) → sort_by f cs ≡ sort_by g cs
  unfolding sort_by
  sort_keys [] h = refl
  sort_keys (c ∷ cs) h =
      insert_keys c (sort_by f cs) (h c (mathlib.Core.List.Memᴰ.head refl)) (λ d m. h d (mathlib.Core.List.Memᴰ.tail (perm_in (Permᴰ.symm (sort_by_self f cs)) m)))
      ∙ ap (insert_by g c) (sort_keys cs (λ d m. h d (mathlib.Core.List.Memᴰ.tail m)))

module _ (m n : ℕ → ℕ) (K L : ℕ → ℕ → List ℕ) where
  over : (i j p v : ℕ) → m v ≡ n v → K p v ≡ L p v → ((w : ℕ) → Memᴰ w (K p v) → (Same m n K L) i j v w) → (Same m n K L) (suc i) (suc j) p v
  unfolding marks_by order_by pairs_by
  over i j p v e k s =
      let ks : List ℕ = K p v in
      let keys : (w : ℕ) → Memᴰ w ks → map m (order_by m K i v w) ≡ map n (order_by n L j v w) = λ w h. order-marks m K i v w ∙ (s w h).marks ∙ sym (order-marks n L j v w) in
      let os : map (order_by m K i v) ks ≡ map (order_by n L j v) ks = map_in (order_by m K i v) (order_by n L j v) ks (λ w h. (s w h).order) in
      let sorted : sort_by (map m) (map (order_by m K i v) ks) ≡ sort_by (map n) (map (order_by n L j v) ks) =
      sort_keys (map m) (map n) (map (order_by m K i v) ks) (λ c h. let (w, a, q) = mathlib.Core.List.Memᴰ.of_map (order_by m K i v) ks h in ap (map m) (sym q) ∙ keys w a ∙ ap (map n) (sym (s w a).order ∙ q))
      ∙ ap (sort_by (map n)) os in
      record {
        marks = ap₂ (λ x l. x ∷ flatten (sort l)) e (map_in (marks_by m K i v) (marks_by n L j v) ks (λ w h. (s w h).marks) ∙ ap (map (marks_by n L j v)) k);
        order = ap (λ l. v ∷ flatten l) (sorted ∙ ap (λ l. sort_by (map n) (map (order_by n L j v) l)) k);
        count = ap₂ ◌+◌
            (ap sum (map_in (pairs_by m K i v) (pairs_by n L j v) ks (λ w h. (s w h).count) ∙ ap (map (pairs_by n L j v)) k))
            (ap pairs (map_in (λ w. map m (order_by m K i v w)) (λ w. map n (order_by n L j v w)) ks keys ∙ ap (map (λ w. map n (order_by n L j v w))) k));
      }

  -- on a forest
  same : (i j p : ℕ) (f : Forest) → count f ≤ i → count f ≤ j → Follows K p f → ((v : ℕ) → Memᴰ v (vertices f) → (m v ≡ n v) × ((q : ℕ) → K q v ≡ L q v))
      → (v : ℕ) → Memᴰ v (roots f) → (Same m n K L) i j p v
  unfolding count roots vertices
  same i j p none a b k h v r = absurd (mathlib.Core.List.Memᴰ.not-nil r)
  same zero j p (tree u d f) a b k h v r = let z : ⊥ = omega arith in absurd z
  same (suc i) zero p (tree u d f) a b k h v r = let z : ⊥ = omega arith in absurd z
  same (suc i) (suc j) p (tree u d f) a b (π, k, l) h v r =
      let (e, g) = h u (mathlib.Core.List.Memᴰ.head refl) in
      let here : (Same m n K L) (suc i) (suc j) p u =
      over i j p u e (g p) (λ w q. same i j u d (omega arith) (omega arith) k (λ x y. h x (mathlib.Core.List.Memᴰ.tail (mathlib.Core.List.Memᴰ.append_left (vertices f) y))) w (perm_in π q)) in
      let beside : Memᴰ v (roots f) → (Same m n K L) (suc i) (suc j) p v = same (suc i) (suc j) p f (omega arith) (omega arith) l (λ x y. h x (mathlib.Core.List.Memᴰ.tail (mathlib.Core.List.Memᴰ.append_right (vertices d) y))) v in
      ⊎_elim (λ q. rw q here) beside (mathlib.Core.List.Memᴰ.cases_cons r)

pub one-order : (M : Marks) (label : ℕ → M.Label) (N : ℕ) (E : List ℕ) (r : ℕ) (m n : ℕ → ℕ) (K L : ℕ → ℕ → List ℕ)
    → Reads M label N E r m K → Reads M label N E r n L → ((q v : ℕ) → 1 ≤ v → v ≤ N → K q v ≡ L q v) → Rooted N E r
    → (i j : ℕ) → N ≤ i → N ≤ j → Same m n K L i j 0 r
one-order M label N E r m n K L x y k t zero j a b = let z : ⊥ = omega (arith, t.full) in absurd z
one-order M label N E r m n K L x y k t (suc i) zero a b = let z : ⊥ = omega (arith, t.full) in absurd z
one-order M label N E r m n K L x y k t (suc i) (suc j) a b =
    let equal : (v : ℕ) → Memᴰ v (r ∷ vertices t.forest) → (m v ≡ n v) × ((q : ℕ) → K q v ≡ L q v)
    = λ v h. let (c, d) = t.inside v h in (reads_mark M label N E r x v c d ∙ sym (reads_mark M label N E r y v c d), λ q. k q v c d) in
    let (e, g) = equal r (mathlib.Core.List.Memᴰ.head refl) in
    over m n K L i j 0 r e (g 0)
    (λ w h. same m n K L i j r t.forest (omega (arith, t.full)) (omega (arith, t.full)) (is_followed M label N E r m K x t) (λ v q. equal v (mathlib.Core.List.Memᴰ.tail q)) w (perm_in (root-kids M label N E r m K x t) h))
