-- The centre by heights. In a rooted tree whose first branch is the tallest, the root is a middle of the longest paths exactly when
-- another branch is as tall, or the tallest other one is lower by one; then the first child is the other middle.
--
-- In order: what stands k high, and that k rounds of peeling leave just that as long as the root keeps two branches; then, for a
-- root with no branch, with another branch as tall as the first, with others one lower, and with others lower still, what the
-- centre is. Where the first branch is not the tallest nothing is said: a forest can be turned so that it is.
-- Assumes nothing.
use Rattle.std.specs.Prelude.{◌≡◌, ◌⊎◌, ℕ, zero, suc, max, ◌+◌, ◌≤◌, ◌<◌}
use Rattle.std.proofs.Math.Path.{refl}
use Rattle.std.proofs.Common.{sym, ◌∙◌, inl, inr, ⊎_elim, add-one, arith}
use mathlib.Core.List.Memᴰ
use mathlib.Core.List.Permᴰ
use mathlib.Core.List.{List, Memᴰ}
use Rattle.laws.specs.Perms.{perm_in}
use Rattle.skeleton.specs.document.Skeleton.{arcs, IsTree}
use Rattle.skeleton.specs.Walks.{turn}
use Rattle.skeleton.specs.Forest.{Forest, none, tree, vertices, Distinct, Rooted}
use Rattle.longest_path.specs.document.Path.{IsLongest, middle₁, middle₂, IsCentre}
use Rattle.longest_path.specs.Peel.{Two, Peels, Left, start, round}
use Rattle.longest_path.specs.Centre.{middles-left, done}
use Rattle.longest_path.specs.Heights.{tall, Stands, top, below, beside, stands_in, parent_in, stands_arc, lower, higher, stands, one_place, arc_stands, tallest, child}

-- v stands k high: what hangs below it is at least k tall, in the tree with the root r over f
data Reaches (r : ℕ) (f : Forest) (k v : ℕ) : Type 0 where
  root : v ≡ r → k ≤ tall f → Reaches r f k v
  inner : {u h : ℕ} → Stands v u h r f → k ≤ h → Reaches r f k v

weaken : {r : ℕ} {f : Forest} {k m v : ℕ} → k ≤ m → Reaches r f m v → Reaches r f k v
weaken l (root e i) = root e (omega arith)
weaken l (inner s i) = inner s (omega arith)

module _ (N : ℕ) (E : List ℕ) (t : IsTree N E) (r : ℕ) (s : Rooted N E r) where
  abbrev f : Forest
  f = s.forest

  not_root : {v u h : ℕ} → Stands v u h r f → v ≡ r → ⊥
  not_root i e = s.apart (Memᴰ.cast (sym e) (stands_in i))

  -- a parent stands higher
  rise : {v u h : ℕ} → Stands v u h r f → Reaches r f (h + 1) u
  rise i = ⊎_elim (λ y. root y.0 (omega arith)) (λ z. inner z.2 (omega arith)) (higher i)

  -- the parent of what stands k high stands one higher
  lift : {k v w h : ℕ} → Reaches r f k w → Stands w v h r f → Reaches r f (k + 1) v
  lift (root e l) i = absurd (not_root i e)
  lift (inner j l) i = let e = one_place s.distinct j i in weaken (omega (arith, e.1)) (rise i)

  strict : {c v u h m : ℕ} → Stands c v m r f → Stands v u h r f → m + 1 ≤ h
  strict j i = ⊎_elim (λ y. absurd (not_root i y.0)) (λ z. omega (arith, z.3, (one_place s.distinct z.2 i).1)) (higher j)

  -- what stands higher than k has two neighbours that stand k high, its parent and a child
  two_inner : {k v u h : ℕ} → Stands v u h r f → k + 1 ≤ h → Two E (Reaches r f k) v
  two_inner {k} {v} {u} {h} i l =
      let (c, m, j, n) = child k i (omega arith) in
      record {
        one = u;
        other = c;
        differ = λ e. omega (arith, strict j i, strict i (rw (← e) at j));
        one_in = weaken (omega arith) (rise i);
        other_in = inner j n;
        to_one = perm_in (Permᴰ.symm s.same) (stands_arc i);
        to_other = turn E (perm_in (Permᴰ.symm s.same) (stands_arc j));
      }

  -- what has two neighbours that stand k high stands higher than k
  above : {k v : ℕ} → Two E (Reaches r f k) v → Reaches r f (k + 1) v
  above {k} {v} d = step (arc_stands r f (perm_in s.same d.to_one)) (arc_stands r f (perm_in s.same d.to_other))
    where
      Kind : ℕ → Type 0
      Kind w = ((h : ℕ) × Stands v w h r f) ⊎ ((h : ℕ) × Stands w v h r f)

      step : Kind d.one → Kind d.other → Reaches r f (k + 1) v
      step (inl a) (inl b) = absurd (d.differ (one_place s.distinct a.1 b.1).0)
      step (inl a) (inr b) = lift d.other_in b.1
      step (inr a) b = lift d.one_in a.1

  at_first : Left N E (Reaches r f 0) 0
  at_first = start N E (Reaches r f 0) range all
    where
      range : (v : ℕ) → Reaches r f 0 v → (1 ≤ v) × (v ≤ N)
      range v (root e l) = s.inside v (Memᴰ.head e)
      range v (inner i l) = s.inside v (Memᴰ.tail (stands_in i))

      all : (v : ℕ) → 1 ≤ v → v ≤ N → Reaches r f 0 v
      all v h k = ⊎_elim (λ e. root e (omega arith)) (λ m. let (u, h, i) = stands r f v m in inner i (omega arith)) (Memᴰ.cases_cons (s.all v h k))

  -- the root alone is the centre
  pub no_branch : s.forest ≡ none → IsCentre N E r r
  no_branch is = done N E t (Reaches r f 0) 0 at_first r r (root refl (omega arith)) (root refl (omega arith)) only
    where
      only : (w : ℕ) → Reaches r f 0 w → (w ≡ r) ⊎ (w ≡ r)
      only w (root e l) = inl e
      only w (inner {u} {h} i l) = let z : Stands w u h r none = rw is at i in elim z [ ]

  module _ (x : ℕ) (d g : Forest) (is : s.forest ≡ tree x d g) where
    first : Stands x r (tall d) r f
    first = rw is (top refl refl refl)

    size : tall f ≡ max (suc (tall d)) (tall g)
    unfolding tall
    size = rw is refl

    -- the root has two children that stand k high
    two-root : {k : ℕ} → k + 1 ≤ tall g → k ≤ tall d → Two E (Reaches r f k) r
    two-root {k} l n =
        let (c, h, i, j) = tallest r g k (omega arith) in
        let b : Stands c r h r f = rw is (beside i) in
        let o : Distinct (tree x d g) = rw is at s.distinct in
        record {
          one = x;
          other = c;
          differ = λ e. o.1 (Memᴰ.cast e (stands_in i));
          one_in = inner first n;
          other_in = inner b j;
          to_one = turn E (perm_in (Permᴰ.symm s.same) (stands_arc first));
          to_other = turn E (perm_in (Permᴰ.symm s.same) (stands_arc b));
        }

    peels : (k : ℕ) → k + 1 ≤ tall g → k ≤ tall d → Peels E (Reaches r f k) (Reaches r f (k + 1))
    peels k l n = record { old = λ v a. weaken (omega arith) a; two = two; all = λ v a b. above b }
      where
        two : (v : ℕ) → Reaches r f (k + 1) v → Two E (Reaches r f k) v
        two v (root e i) = rw e (two-root l n)
        two v (inner i j) = two_inner i j

    further : (k : ℕ) → suc k ≤ tall g → k ≤ tall d → Left N E (Reaches r f k) k → Left N E (Reaches r f (suc k)) (suc k)
    further k l n a = rw add-one at (round N E t (Reaches r f k) (Reaches r f (k + 1)) k a (peels k (omega arith) n))

    -- as long as the root has two branches that are so tall
    level : (k : ℕ) → k ≤ tall g → k ≤ suc (tall d) → Left N E (Reaches r f k) k
    level zero l n = at_first
    level (suc k) l n = further k l (omega arith) (level k (omega arith) (omega arith))

    -- where another branch is as tall as the first, the root is the centre
    pub one-centre : tall g ≡ suc (tall d) → IsCentre N E r r
    one-centre e = done N E t (Reaches r f (tall g)) (tall g) (level (tall g) (omega arith) (omega arith)) r r (root refl (omega (arith, size))) (root refl (omega (arith, size))) only
      where
        only : (w : ℕ) → Reaches r f (tall g) w → (w ≡ r) ⊎ (w ≡ r)
        only w (root i l) = inl i
        only w (inner i l) = let z : ⊥ = omega (arith, lower i, size) in absurd z

    -- where the tallest other branch is one lower, the centre is the root and its first child
    pub two-centre : tall g ≡ tall d → IsCentre N E r x
    two-centre e = done N E t (Reaches r f (tall g)) (tall g) (level (tall g) (omega arith) (omega arith)) r x (root refl (omega (arith, size))) (inner first (omega arith)) only
      where
        found : {w u h : ℕ} → Stands w u h r (tree x d g) → tall g ≤ h → w ≡ x
        found (top i j k) l = i
        found (below i) l = let z : ⊥ = omega (arith, lower i) in absurd z
        found (beside i) l = let z : ⊥ = omega (arith, lower i) in absurd z

        only : (w : ℕ) → Reaches r f (tall g) w → (w ≡ r) ⊎ (w ≡ x)
        only w (root i l) = inl i
        only w (inner i l) = inr (found (rw is at i) l)

    -- where all other branches are lower still, the root is in no middle
    module _ (l : tall g < tall d) where
      abbrev Rest : ℕ → Type 0
      Rest v = Reaches r f (tall g + 1) v × (v ≡ r → ⊥)

      -- the root has no second child that stands as high as the other branches are tall
      only-first : {w h : ℕ} → Stands w r h r (tree x d g) → tall g ≤ h → w ≡ x
      unfolding vertices
      only-first (top i j k) n = i
      only-first (below i) n = absurd (s.apart (rw is (Memᴰ.append_left (vertices g) (parent_in i))))
      only-first (beside i) n = let z : ⊥ = omega (arith, lower i) in absurd z

      child_of_root : (w : ℕ) → Reaches r f (tall g) w → Memᴰ (r, w) (arcs E) → w ≡ x
      child_of_root w a m = ⊎_elim (λ b. absurd (not_root b.1 refl)) (λ b. step a b.1) (arc_stands r f (perm_in s.same m))
        where
          step : {h : ℕ} → Reaches r f (tall g) w → Stands w r h r f → w ≡ x
          step (root e n) i = absurd (not_root i e)
          step (inner j n) i = only-first (rw is at i) (omega (arith, (one_place s.distinct j i).1))

      peels_root : Peels E (Reaches r f (tall g)) Rest
      peels_root = record {
        old = λ v a. weaken (omega arith) a.0;
        two = λ v a. two v a.0 a.1;
        all = λ v a b. (above b, λ e. b.differ (child_of_root b.one b.one_in (rw e at b.to_one) ∙ sym (child_of_root b.other b.other_in (rw e at b.to_other))));
      }
        where
          two : (v : ℕ) → Reaches r f (tall g + 1) v → (v ≡ r → ⊥) → Two E (Reaches r f (tall g)) v
          two v (root e i) n = absurd (n e)
          two v (inner i j) n = two_inner i j

      pub no_centre : (q : List ℕ) → IsLongest N E q → (middle₁ q ≡ r → ⊥) × (middle₂ q ≡ r → ⊥)
      no_centre q h =
          let m = middles-left N E Rest (tall g + 1) (round N E t (Reaches r f (tall g)) Rest (tall g) (level (tall g) (omega arith) (omega arith)) peels_root) x (inner first (omega arith), not_root first) q h in
          (m.0.1, m.1.1)
