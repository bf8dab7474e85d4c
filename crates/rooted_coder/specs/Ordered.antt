-- Document 01, "Codes": "Coding a vertex asks for its children's codes first, and a subtree is always smaller than its tree."
--
-- What that recursion is held to, by the table alone. It writes vertices, and compares them by their marks. In order: the children of a
-- vertex by the table, the order of what hangs there and the pairs looked at; what the recursion asks of a table; parts that
-- stand one behind the other in the buffer, and what each function leaves there; marks, with labels, and what the buffer then holds of
-- the skeleton whose table it is; digits and atoms as marks. Assumes nothing.
use Rattle.std.specs.Prelude.{◌≡◌, ◌⊎◌, Bool, true, false, ℕ, suc, ◌+◌, ◌-◌, ◌*◌, ◌≤◌, ◌<◌, length, get_or, take}
use Rattle.std.proofs.Math.Logic.{ite, Dec.not as dec_not}
use mathlib.Core.List.{List, [], ◌∷◌, ◌++◌, map, filter, flatten}
use Rattle.std.proofs.Math.Decide.{ℕ_discrete}
use Rattle.digit_code.specs.document.Code.{sum}
use Rattle.digit_code.specs.Compare.{looked}
use Rattle.limits.specs.document.Limits.{size}
use Rattle.limits.specs.Width.{width}
use Rattle.skeleton.specs.document.Skeleton as tree
use Rattle.skeleton.specs.document.Label.{Marks, rootedₗ}
use Rattle.letters.specs.Named.{rank_at}
use Rattle.edge_list.specs.Table.{deg}
use Rattle.numbering.specs.Numbers as numbers
use Rattle.numbering.specs.document.Order as orders
use Rattle.numbering.specs.document.Order.{sort_by, order_by}
use Rattle.numbering.specs.Order.{place, pairs, pairs_by}

-- ---- the order by the table

-- the mark of v, and the marks of a part
abbrev pub mark_of : List ℕ → ℕ → ℕ
mark_of m v = get_or m v 0

abbrev pub marked : List ℕ → List ℕ → List ℕ
marked m c = map (mark_of m) c

-- the numbers of a row up to the first 0
unfoldable pub filled : List ℕ → List ℕ
filled [] = []
filled (x ∷ l) = ite (ℕ_discrete x 0) [] (x ∷ filled l)

-- without p
abbrev pub but : ℕ → List ℕ → List ℕ
but p l = filter {p = λ w. ¬ (w ≡ p)} (λ w. dec_not (ℕ_discrete w p)) l

-- the row of v, and the number in its column j
abbrev pub row : List (List ℕ) → ℕ → List ℕ
row t v = get_or t (v - 1) []

abbrev pub cell : List (List ℕ) → ℕ → ℕ → ℕ
cell t v j = get_or (row t v) j 0

-- the children of v, where p is its parent
unfoldable pub kids : List (List ℕ) → ℕ → ℕ → List ℕ
kids t p v = but p (filled (row t v))

-- what hangs at v, where p is its parent, in the order of its code, and the pairs of marks looked at; as deep as any skeleton goes
unfoldable pub ordered : List ℕ → List (List ℕ) → ℕ → ℕ → List ℕ
ordered m t p v = order_by (mark_of m) (kids t) (suc size) p v

unfoldable pub compared : List ℕ → List (List ℕ) → ℕ → ℕ → ℕ
compared m t p v = pairs_by (mark_of m) (kids t) (suc size) p v

-- v is a vertex; the rows of vertices hold vertices and then 0; and a neighbour of u that has no second has u for its first
pub record Rows (t : List (List ℕ)) (v : ℕ) : Type 0 where
  pub number : ℕ
  pub few : number ≤ size
  pub some : 1 ≤ v
  pub inside : v ≤ number
  pub wide : (u : ℕ) → 1 ≤ u → u ≤ number → length (row t u) ≡ width
  pub within : (u j : ℕ) → 1 ≤ u → u ≤ number → j < width → cell t u j ≤ number
  pub back : (u j : ℕ) → 1 ≤ u → u ≤ number → j < width → 1 ≤ cell t u j → cell t (cell t u j) 1 ≡ 0 → cell t (cell t u j) 0 ≡ u

-- ---- parts in the buffer

-- lens has the length of each of the parts L where it begins, the first at x
abbrev pub Heads : List ℕ → ℕ → List (List ℕ) → Type 0
Heads lens x [] = Unit {0}
Heads lens x (c ∷ L) = (get_or lens x 0 ≡ length c) × (1 ≤ length c) × Heads lens (x + length c) L

-- in s, behind p and before q, the parts L stand one behind the other, from x up to y
pub record Stand (s lens : List ℕ) (x y : ℕ) (p : List ℕ) (L : List (List ℕ)) (q : List ℕ) : Type 0 where
  pub whole : s ≡ p ++ (flatten L ++ q)
  pub begins : length p ≡ x
  pub ends : x + length (flatten L) ≡ y
  pub heads : Heads lens x L

-- some parts do
pub record Standing (s lens : List ℕ) (x y : ℕ) : Type 0 where
  pub before : List ℕ
  pub parts : List (List ℕ)
  pub behind : List ℕ
  pub stand : Stand s lens x y before parts behind

-- the place of c among the parts L, the first of which begins at x
pub record Spot (f : List ℕ → List ℕ) (x : ℕ) (L : List (List ℕ)) (c : List ℕ) (at : ℕ) : Type 0 where
  pub front : List (List ℕ)
  pub back : List (List ℕ)
  pub parts : L ≡ front ++ back
  pub sorted : place f c L ≡ front ++ (c ∷ back)
  pub is : at ≡ x + length (flatten front)

-- how many pairs are looked at where c is compared with each of L
abbrev pub met : (List ℕ → List ℕ) → List ℕ → List (List ℕ) → ℕ
met f c L = sum (map (λ d. looked (f d) (f c)) L)

-- s' is s with the parts from a up to m and from m up to b exchanged
abbrev pub Exchanged : List ℕ → ℕ → ℕ → ℕ → List ℕ → Type 0
Exchanged s a m b s' =
    (p x y z : List ℕ) → s ≡ p ++ (x ++ (y ++ z)) → length p ≡ a → a + length x ≡ m → m + length y ≡ b → s' ≡ p ++ (y ++ (x ++ z))

-- behind the parts L stands one more, c, at m; and some parts and one more do
pub record Waits (s lens : List ℕ) (f m : ℕ) (p : List ℕ) (L : List (List ℕ)) (c q : List ℕ) : Type 0 where
  pub stand : Stand s lens f m p L (c ++ q)
  pub head : get_or lens m 0 ≡ length c
  pub some : 1 ≤ length c

pub record Waiting (s lens : List ℕ) (f m : ℕ) : Type 0 where
  pub before : List ℕ
  pub parts : List (List ℕ)
  pub one : List ℕ
  pub behind : List ℕ
  pub is : Waits s lens f m before parts one behind

-- it stands at its place among them now; all else is as it was; n pairs were looked at
pub record Settles (k : List ℕ → List ℕ) (lens s' lens' : List ℕ) (f m : ℕ) (p : List ℕ) (L : List (List ℕ)) (c q : List ℕ) (n : ℕ) : Type 0 where
  pub stand : Stand s' lens' f (m + length c) p (place k c L) q
  pub kept : (i : ℕ) → (i < f) ⊎ (m + length c ≤ i) → get_or lens' i 0 ≡ get_or lens i 0
  pub count : n ≡ met k c L

-- where the part that begins at `at` ends
abbrev pub end_of : List ℕ → ℕ → ℕ
end_of lens at = at + get_or lens at 0

-- the parts L are sorted now, n pairs were looked at
pub record Arranges (k : List ℕ → List ℕ) (s' p : List ℕ) (L : List (List ℕ)) (q : List ℕ) (n : ℕ) : Type 0 where
  pub whole : s' ≡ p ++ (flatten (sort_by k L) ++ q)
  pub count : n ≡ pairs (map k L)

-- the answer is yes only where two places at least follow `at`, and no only where the first part behind `at` is the only one
pub record Several (lens : List ℕ) (at : ℕ) (r : Bool) : Type 0 where
  pub more : r ≡ true → at + 2 < end_of lens at
  pub lone : r ≡ false → (get_or lens at 0 ≤ 2) ⊎ (get_or lens at 0 ≤ 1 + get_or lens (at + 1) 0)

-- behind v, which stands at `at`, the parts of its children ws hang one behind the other, each in its order; n pairs were looked at to put
-- them in order; what stood before is as it was
pub record Hangs (m : List ℕ) (t : List (List ℕ)) (s lens s' lens' : List ℕ) (v at : ℕ) (ws : List ℕ) (n : ℕ) : Type 0 where
  pub outs : length s' ≡ size
  pub long : length lens' ≡ size
  pub behind : List ℕ
  pub whole : s' ≡ take (at + 1) s ++ (flatten (map (ordered m t v) ws) ++ behind)
  pub head : get_or lens' at 0 ≡ 1 + length (flatten (map (ordered m t v) ws))
  pub heads : Heads lens' (at + 1) (map (ordered m t v) ws)
  pub kept : (i : ℕ) → i < at → get_or lens' i 0 ≡ get_or lens i 0
  pub count : n ≡ sum (map (compared m t v) ws)
  pub few : n ≤ size * size * length (flatten (map (ordered m t v) ws))

-- what hangs at the root, in its order, begins s; n pairs were looked at
pub record Covers (m : List ℕ) (t : List (List ℕ)) (root : ℕ) (s : List ℕ) (n : ℕ) : Type 0 where
  pub outs : length s ≡ size
  pub behind : List ℕ
  pub whole : s ≡ ordered m t 0 root ++ behind
  pub count : n ≡ compared m t 0 root

-- ---- marks

-- s has the mark of each vertex of the tree E with the root r
pub record Filled (M : Marks) (label : ℕ → M.Label) (N : ℕ) (E : List ℕ) (r : ℕ) (s : List ℕ) : Type 0 where
  pub top : mark_of s r ≡ M.mark (tree.degree E r) (label r)
  pub rest : (v : ℕ) → 1 ≤ v → v ≤ N → (v ≡ r → ⊥) → mark_of s v ≡ M.mark (tree.degree E v - 1) (label v)

-- the first N of s are the vertices of the tree E in the order of its rooted code at r, their marks are that code, and n pairs were looked at
pub record Placed (M : Marks) (label : ℕ → M.Label) (N : ℕ) (E : List ℕ) (r : ℕ) (m s : List ℕ) (n : ℕ) : Type 0 where
  pub order : take N s ≡ orders.orderₗ M label N E r
  pub code : marked m (take N s) ≡ rootedₗ M label N E r
  pub count : n ≡ numbers.pairsₗ M label N E r

-- ---- digits and atoms as marks

-- x is the mark of v where r is the root: three times its digit, and its atom
abbrev pub IsMark : List ℕ → List ℕ → ℕ → ℕ → ℕ → Type 0
IsMark d a r v x = (v ≡ r → x ≡ 3 * deg d v + rank_at a v) × ((v ≡ r → ⊥) → x ≡ 3 * (deg d v - 1) + rank_at a v)

-- s has the mark of each of the vertices up to n
abbrev pub Fills : List ℕ → List ℕ → ℕ → ℕ → List ℕ → Type 0
Fills d a r n s = (v : ℕ) → 1 ≤ v → v ≤ n → IsMark d a r v (get_or s v 0)

-- the first n degrees are of a row, and the first n atoms have names
abbrev pub Small : List ℕ → List ℕ → ℕ → Type 0
Small d a n = (i : ℕ) → i < n → (get_or d i 0 ≤ width) × (get_or a i 0 < 3)
