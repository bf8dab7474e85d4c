-- The order by the table is that of the skeleton whose table it is. In order: the children, what the recursion asks of a table, what is
-- written by any marks, with labels, and by digits and atoms. Assumes nothing.
use mathlib.Core.Path.{◌≡◌, refl, ap, ap₂, subst, ◌∙◌}
use mathlib.Core.Logic.{if_pos, if_neg}
use mathlib.Core.List.Permᴰ
use mathlib.Core.List.{List, [], ◌∷◌, Memᴰ, Permᴰ}
use Prim.Native.Nat.{ℕ, suc, ◌+◌, ◌-◌, ◌*◌, ◌≤◌, ◌<◌}
use native.Mathlib.Decide.{ℕ_discrete, dec_lt}
use native.Mathlib.Omega.{arith}
use lib.ListN.{length, get_or, take}
use lib.Seq.{take_at}
use Rattle.laws.specs.Places.{at_in}
use Rattle.limits.specs.document.Limits.{size}
use Rattle.limits.specs.Width.{width}
use Rattle.skeleton.specs.document.Skeleton.{arcs, neighbours, degree, Degrees, IsTree, children}
use Rattle.skeleton.specs.document.Label.{Marks}
use Rattle.skeleton.specs.document.Atom.{Atom}
use Rattle.skeleton.specs.document.AtomMarks.{atoms}
use Rattle.skeleton.specs.Atoms.{rank-under}
use Rattle.skeleton.specs.Grow.{rooted_tree}
use Rattle.letters.specs.Named.{rank_at, Named, Ranked}
use Rattle.edge_list.specs.Table.{IsTable, Held, deg}
use Rattle.numbering.specs.Numbering.{Reads, Orders}
use Rattle.numbering.proofs.Numbering.{tree_numbering}
use Rattle.numbering.specs.document.Order.{orderₗ, mark_at}
use Rattle.numbering.specs.Numbers.{pairsₗ, reads_tree}
use Rattle.numbering.specs.Same.{Same}
use Rattle.numbering.proofs.Same.{one-order}
use Rattle.rooted_coder.specs.Ordered.{mark_of, marked, filled, but, row, cell, kids, ordered, compared, Rows, Filled, Small, Fills, Covers, Placed}
use Rattle.rooted_coder.proofs.Neighbours.{neighbour_in, mutual_in, lone}

-- a row that holds the numbers of a list and then 0
filled_is : (l ns : List ℕ) → length ns ≤ length l → ((j : ℕ) → j < length ns → get_or l j 0 ≡ get_or ns j 0) → ((j : ℕ) → j < length ns → 1 ≤ get_or ns j 0)
    → ((j : ℕ) → length ns ≤ j → j < length l → get_or l j 0 ≡ 0) → filled l ≡ ns
unfolding filled
filled_is [] [] h e n z = refl
filled_is [] (x ∷ ns) h e n z = let y : ⊥ = omega arith in absurd y
filled_is (x ∷ l) [] h e n z = if_pos (ℕ_discrete x 0) (z 0 (omega arith) (omega arith)) [] (x ∷ filled l)
filled_is (x ∷ l) (y ∷ ns) h e n z =
    let is = e 0 (omega arith) in
    let some = n 0 (omega arith) in
    if_neg (ℕ_discrete x 0) (λ k. omega arith) [] (x ∷ filled l)
    ∙ ap₂ (λ u v. u ∷ v) is
    (filled_is l ns (omega arith) (λ j i. e (suc j) (omega arith)) (λ j i. n (suc j) (omega arith)) (λ j i k. z (suc j) (omega arith) (omega arith)))

member_length : {A : Type 0} {x : A} {l : List A} → Memᴰ x l → 0 < length l
member_length {l = []} m = absurd (mathlib.Core.List.Memᴰ.not-nil m)
member_length {l = y ∷ l} m = omega arith

module _ {N : ℕ} {E : List ℕ} {t : List (List ℕ)} {d : List ℕ} (tree : IsTree N E) (b : IsTable N E t d) (l : N ≤ size) (g : Degrees width N E) where
  -- the row of v
  long : (v : ℕ) → 1 ≤ v → v ≤ N → length (row t v) ≡ width
  long v h k = b.shaped.wide (v - 1) (omega arith)

  few : (v : ℕ) → 1 ≤ v → v ≤ N → degree E v ≤ width
  unfolding Degrees
  few v h k = g v h k

  at-column : (v j : ℕ) → 1 ≤ v → v ≤ N → j < degree E v → (1 ≤ cell t v j) × (cell t v j ≤ N)
  unfolding degree
  at-column v j h k i =
      let a = tree.inside (get_or (neighbours (arcs E) v) j 0) (neighbour_in E v (at_in (neighbours (arcs E) v) j 0 i)) in
      let e = b.row v j h k i in
      (omega (arith, a.0), omega (arith, a.1))

  past_columns : (v j : ℕ) → 1 ≤ v → v ≤ N → degree E v ≤ j → j < width → cell t v j ≡ 0
  past_columns v j h k i m = b.rest (v - 1) j (omega arith) (omega (arith, b.degs v h k)) m

  row_is : (v : ℕ) → 1 ≤ v → v ≤ N → filled (row t v) ≡ neighbours (arcs E) v
  unfolding degree
  row_is v h k =
      let f : degree E v ≤ width = few v h k in
      let n = long v h k in
      filled_is (row t v) (neighbours (arcs E) v) (omega arith) (λ j i. b.row v j h k i) (λ j i. omega (arith, at-column v j h k i, b.row v j h k i)) (λ j i m. past_columns v j h k i (omega arith))

  -- the table's children are the children
  kids_are : (p v : ℕ) → 1 ≤ v → v ≤ N → kids t p v ≡ children (arcs E) p v
  unfolding kids children
  kids_are p v h k = ap (but p) (row_is v h k)

  rows_are : (v : ℕ) → 1 ≤ v → v ≤ N → Rows t v
  unfolding degree
  rows_are v h k = record {
    number = N;
    few = l;
    some = h;
    inside = k;
    wide = long;
    within = λ u j i o m. step u j i o m (dec_lt j (degree E u));
    back = λ u j i o m s z. returned u j i o m s z (dec_lt j (degree E u));
  }
    where
      step : (u j : ℕ) → 1 ≤ u → u ≤ N → j < width → Dec (j < degree E u) → cell t u j ≤ N
      step u j i o m (yes q) = (at-column u j i o q).1
      step u j i o m (no q) = omega (arith, past_columns u j i o (omega arith) m)

      alone : (w : ℕ) → 1 ≤ w → w ≤ N → cell t w 1 ≡ 0 → Dec (1 < degree E w) → degree E w ≤ 1
      alone w i o z (yes q) = let y : ⊥ = omega (arith, at-column w 1 i o q) in absurd y
      alone w i o z (no q) = omega arith

      returned : (u j : ℕ) → 1 ≤ u → u ≤ N → j < width → 1 ≤ cell t u j → cell t (cell t u j) 1 ≡ 0 → Dec (j < degree E u) → cell t (cell t u j) 0 ≡ u
      returned u j i o m s z (no q) = let y : ⊥ = omega (arith, past_columns u j i o (omega arith) m) in absurd y
      returned u j i o m s z (yes q) =
          let w = cell t u j in
          let a = at-column u j i o q in
          let n : Memᴰ u (neighbours (arcs E) w) = mutual_in E (mathlib.Core.List.Memᴰ.cast (b.row u j i o q) (at_in (neighbours (arcs E) u) j 0 q)) in
          let some = member_length n in
          let one : length (neighbours (arcs E) w) ≤ 1 = alone w a.0 a.1 z (dec_lt 1 (degree E w)) in
          b.row w 0 a.0 a.1 some ∙ lone (neighbours (arcs E) w) u (omega arith) n

-- ---- marks, with labels

module _ (M : Marks) (label : ℕ → M.Label) {N : ℕ} {E : List ℕ} {t : List (List ℕ)} {d : List ℕ} {r : ℕ} (s : List ℕ) (tree : IsTree N E) (b : IsTable N E t d) (l : N ≤ size) (g : Degrees width N E)
    (h : 1 ≤ r) (k : r ≤ N) (f : Filled M label N E r s) where
  reads_table : Reads M label N E r (mark_of s) (kids t)
  reads_table = record {
    kids = λ p v i j. subst (λ l. Permᴰ (kids t p v) l) (kids_are tree b l g p v i j) (Permᴰ.refl (kids t p v));
    top = f.top;
    rest = f.rest;
  }

  same : Same (mark_of s) (mark_at M label E r) (kids t) (children (arcs E)) (suc size) N 0 r
  same =
      one-order M label N E r (mark_of s) (mark_at M label E r) (kids t) (children (arcs E)) reads_table (reads_tree M label N E r) (λ p v i j. kids_are tree b l g p v i j) (rooted_tree N E r tree h k)
      (suc size) N (omega arith) (omega arith)

  -- the order by the table is an order of the vertices, whose marks are the rooted code
  numbers : Orders M label N E r (mark_of s) (ordered s t 0 r)
  unfolding ordered
  numbers = tree_numbering M label N E r (mark_of s) (kids t) reads_table (suc size) (omega arith) tree h k

  -- what hangs at the root is the order of the edge list
  placed : {out : List ℕ} {n : ℕ} → Covers s t r out n → Placed M label N E r s out n
  unfolding ordered compared orderₗ pairsₗ
  placed {out} c =
      let first : take N out ≡ ordered s t 0 r = ap (take N) c.whole ∙ take_at (ordered s t 0 r) c.behind N numbers.all in
      record { order = first ∙ same.order; code = ap (marked s) first ∙ numbers.code; count = c.count ∙ same.count }

-- ---- digits and atoms as marks

marks-filled :
    {label : ℕ → Atom} {N : ℕ} {E : List ℕ} {t : List (List ℕ)} {d a : List ℕ} {r : ℕ} (s : List ℕ)
    → IsTable N E t d → Named N label a → 1 ≤ r → r ≤ N → Fills d a r N s → Filled atoms label N E r s
marks-filled {r = r} s b c h k f = record {
  top = (f r h k).0 refl ∙ ap₂ (λ x y. 3 * x + y) (b.degs r h k) (c.ranks r h k);
  rest = λ v i j n. (f v i j).1 n ∙ ap₂ (λ x y. 3 * (x - 1) + y) (b.degs v i j) (c.ranks v i j);
}

-- another list with the same table has as few neighbours
degrees_of : {N : ℕ} {E : List ℕ} {t : List (List ℕ)} {d : List ℕ} → Held N t d → IsTable N E t d → Degrees width N E
unfolding Degrees
degrees_of s b v h k = omega (arith, b.degs v h k, s.table.degs v h k, s.skeleton.degrees v h k)

module _ {N : ℕ} {t : List (List ℕ)} {d a : List ℕ} (s : Held N t d) (z : Ranked N a) where
  -- every mark fits
  pub small : Small d a N
  unfolding Degrees
  small i h =
      let e : suc i - 1 ≡ i = omega arith in
      let x : deg d (suc i) ≤ width = omega (arith, s.table.degs (suc i) (omega arith) (omega arith), s.skeleton.degrees (suc i) (omega arith) (omega arith)) in
      let y : rank_at a (suc i) < 3 = omega (arith, z.named.ranks (suc i) (omega arith) (omega arith), rank-under (z.label (suc i))) in
      (rw e at x, rw e at y)

  module _ {r : ℕ} (h : 1 ≤ r) (k : r ≤ N) where
    -- what the recursion asks at the root
    pub root-rows : Rows t r
    root-rows = rows_are s.skeleton.tree s.table s.skeleton.few s.skeleton.degrees r h k

    module _ (m : List ℕ) (f : Fills d a r N m) where
      pub root_length : length (ordered m t 0 r) ≡ N
      root_length = (numbers atoms z.label m s.skeleton.tree s.table s.skeleton.few s.skeleton.degrees h k (marks-filled m s.table z.named h k f)).all

      -- what is written by these marks
      pub marks_placed : {out : List ℕ} {n : ℕ} → Covers m t r out n → (E : List ℕ) (label : ℕ → Atom) → IsTree N E → IsTable N E t d → Named N label a → Placed atoms label N E r m out n
      marks_placed c E label tree b q = placed atoms label m tree b s.skeleton.few (degrees_of s b) h k (marks-filled m b q h k f) c
