-- A tree by its edge list is a forest at any root: grown along the walks from the root, each new vertex hung on as a leaf. At the end
-- the counts say that no edge is left.
--
-- In order: an edge taken out of an edge list; a leaf hung into a forest; what is grown, and how a walk makes it grow; the tree.
-- Assumes nothing.
use Rattle.std.specs.Prelude.{◌≡◌, refl, ◌⊎◌, length}
use Rattle.std.proofs.Common.{sym, ap, inl, inr}
use Rattle.std.proofs.Math.Logic.{⊎_elim}
use mathlib.Core.List.Memᴰ
use mathlib.Core.List.{List, [], ◌∷◌, ◌++◌, Memᴰ, Permᴰ, append-nil}
use Prim.Native.Nat.{ℕ, zero, suc, ◌+◌, ◌*◌, ◌≤◌}
use native.Mathlib.Omega.{arith}
use Rattle.laws.specs.Perms.{perm_in, perm_length, front, dec_in}
use Rattle.laws.specs.Once.{once_perm, fits, up_to, up_to_length, up_to_once, up_to_in}
use Rattle.laws.specs.document.Once.{Once}
use Rattle.skeleton.specs.document.Skeleton.{Arc, arcs, Walk, here, along, IsTree}
use Rattle.skeleton.specs.Forest.{Forest, none, tree, vertices, hung, Rooted}
use Rattle.skeleton.specs.Forests.{count-vertices, distinct_once, hung_in}
use Rattle.skeleton.specs.Walks.{arc_end, walks}

-- an edge list without one of its edges, which joins u and v
pub record Taken (E : List ℕ) (u v : ℕ) : Type 0 where
  pub rest : List ℕ
  pub less : length E ≡ length rest + 2
  pub same : Permᴰ (arcs E) ((u, v) ∷ (v, u) ∷ arcs rest)

pub take_edge : (E : List ℕ) {u v : ℕ} → Memᴰ (u, v) (arcs E) → Taken E u v
unfolding arcs
take_edge [] h = absurd (Memᴰ.not-nil h)
take_edge (a ∷ []) h = absurd (Memᴰ.not-nil h)
take_edge (a ∷ b ∷ E) (Memᴰ.head e) = record {
  rest = E;
  less = omega arith;
  same = mathlib.Core.List.Permᴰ.cons (sym e) (mathlib.Core.List.Permᴰ.cons (ap (λ (x : Arc). (x.1, x.0)) (sym e)) (mathlib.Core.List.Permᴰ.refl (arcs E)));
}
take_edge (a ∷ b ∷ E) (Memᴰ.tail (Memᴰ.head e)) = record {
  rest = E;
  less = omega arith;
  same = mathlib.Core.List.Permᴰ.swap (ap (λ (x : Arc). (x.1, x.0)) (sym e)) (sym e);
}
take_edge (a ∷ b ∷ E) {u} {v} (Memᴰ.tail (Memᴰ.tail h)) =
    let t : Taken E u v = take_edge E h in
    record {
      rest = a ∷ b ∷ t.rest;
      less = omega (arith, t.less);
      same = mathlib.Core.List.Permᴰ.trans
          {l₃ = (u, v) ∷ (v, u) ∷ (a, b) ∷ (b, a) ∷ arcs t.rest}
          (mathlib.Core.List.Permᴰ.cons refl (mathlib.Core.List.Permᴰ.cons refl t.same))
          (front ((a, b) ∷ (b, a) ∷ []) ((u, v) ∷ (v, u) ∷ []) (arcs t.rest));
    }

-- a forest under r with the leaf v hung under u
record Hung (r u v : ℕ) (f : Forest) : Type 0 where
  forest : Forest
  more : Permᴰ ((u, v) ∷ (v, u) ∷ hung r f) (hung r forest)
  names : Permᴰ (v ∷ vertices f) (vertices forest)

-- as the first child of the root
under-root : (r u v : ℕ) (f : Forest) → u ≡ r → Hung r u v f
unfolding hung vertices
under-root r u v f e = record {
  forest = tree v none f;
  more = mathlib.Core.List.Permᴰ.cons (λ i. (e i, v)) (mathlib.Core.List.Permᴰ.cons (λ i. (v, e i)) (mathlib.Core.List.Permᴰ.refl (hung r f)));
  names = mathlib.Core.List.Permᴰ.refl (v ∷ vertices f);
}

hang : (r u v : ℕ) (f : Forest) → Memᴰ u (r ∷ vertices f) → Hung r u v f
unfolding hung vertices
hang r u v none h = under-root r u v none (Memᴰ.eq_of_singleton h)
hang r u v (tree x d g) h = step (Memᴰ.cases_cons h) (hang x u v d) (hang r u v g)
  where
    within : Hung x u v d → Hung r u v (tree x d g)
    within k = record {
      forest = tree x k.forest g;
      more = mathlib.Core.List.Permᴰ.trans
          (front ((u, v) ∷ (v, u) ∷ []) ((r, x) ∷ (x, r) ∷ []) (hung x d ++ hung r g))
          (mathlib.Core.List.Permᴰ.cons refl (mathlib.Core.List.Permᴰ.cons refl (mathlib.Core.List.Permᴰ.append_right (hung r g) k.more)));
      names = mathlib.Core.List.Permᴰ.trans (mathlib.Core.List.Permᴰ.swap refl refl) (mathlib.Core.List.Permᴰ.cons refl (mathlib.Core.List.Permᴰ.append_right (vertices g) k.names));
    }

    beside : Hung r u v g → Hung r u v (tree x d g)
    beside k = record {
      forest = tree x d k.forest;
      more = mathlib.Core.List.Permᴰ.trans
          (front ((u, v) ∷ (v, u) ∷ []) ((r, x) ∷ (x, r) ∷ hung x d) (hung r g))
          (mathlib.Core.List.Permᴰ.append_left ((r, x) ∷ (x, r) ∷ hung x d) k.more);
      names = mathlib.Core.List.Permᴰ.trans (front (v ∷ []) (x ∷ vertices d) (vertices g)) (mathlib.Core.List.Permᴰ.append_left (x ∷ vertices d) k.names);
    }

    step : (u ≡ r) ⊎ Memᴰ u (x ∷ (vertices d ++ vertices g)) → (Memᴰ u (x ∷ vertices d) → Hung x u v d) → (Memᴰ u (r ∷ vertices g) → Hung r u v g) → Hung r u v (tree x d g)
    step (inl e) i j = under-root r u v (tree x d g) e
    step (inr m) i j = ⊎_elim (λ a. within (i a)) (λ b. beside (j (Memᴰ.tail b))) (Memᴰ.append_cases (x ∷ vertices d) m)

-- each vertex of a forest has its parent's arc
parent : (p : ℕ) (f : Forest) (v : ℕ) → Memᴰ v (vertices f) → (u : ℕ) × Memᴰ (u, v) (hung p f)
unfolding hung vertices
parent p none v h = absurd (Memᴰ.not-nil h)
parent p (tree x d f) v h = step (Memᴰ.cases_cons h) (parent x d v) (parent p f v)
  where
    Has : ℕ → Forest → Type 0
    Has q g = (u : ℕ) × Memᴰ (u, v) (hung q g)

    step : (v ≡ x) ⊎ Memᴰ v (vertices d ++ vertices f) → (Memᴰ v (vertices d) → Has x d) → (Memᴰ v (vertices f) → Has p f) → Has p (tree x d f)
    step (inl e) i j = (p, Memᴰ.head (λ k. (p, e k)))
    step (inr m) i j = ⊎_elim
        (λ a. let (u, k) = i a in (u, Memᴰ.tail (Memᴰ.tail (Memᴰ.append_left (hung p f) k))))
        (λ b. let (u, k) = j b in (u, Memᴰ.tail (Memᴰ.tail (Memᴰ.append_right (hung x d) k))))
        (Memᴰ.append_cases (vertices d) m)

-- what is grown: a forest under r, and the edges that are left
record Grown (E : List ℕ) (r : ℕ) : Type 0 where
  forest : Forest
  rest : List ℕ
  same : Permᴰ (arcs E) (hung r forest ++ arcs rest)
  once : Once (r ∷ vertices forest)
  counts : length E ≡ 2 * length (vertices forest) + length rest

module _ (E : List ℕ) (r : ℕ) where
  abbrev In : Grown E r → ℕ → Type 0
  In g v = Memᴰ v (r ∷ vertices g.forest)

  -- grown further, to v
  record More (g : Grown E r) (v : ℕ) : Type 0 where
    next : Grown E r
    keeps : (w : ℕ) → In g w → In next w
    reached : In next v

  seed : Grown E r
  unfolding hung vertices
  seed = record { forest = none; rest = E; same = mathlib.Core.List.Permᴰ.refl (arcs E); once = (Memᴰ.not-nil, tt); counts = omega arith }

  add : (g : Grown E r) (u v : ℕ) → In g u → (In g v → ⊥) → Memᴰ (u, v) (arcs g.rest) → More g v
  add g u v i n h =
      let t : Taken g.rest u v = take_edge g.rest h in
      let k : Hung r u v g.forest = hang r u v g.forest i in
      let q : Permᴰ (v ∷ r ∷ vertices g.forest) (r ∷ vertices k.forest) =
      mathlib.Core.List.Permᴰ.trans (mathlib.Core.List.Permᴰ.swap refl refl) (mathlib.Core.List.Permᴰ.cons refl k.names) in
      record {
        next = record {
          forest = k.forest;
          rest = t.rest;
          same = mathlib.Core.List.Permᴰ.trans g.same (mathlib.Core.List.Permᴰ.trans
              (mathlib.Core.List.Permᴰ.trans (mathlib.Core.List.Permᴰ.append_left (hung r g.forest) t.same) (front (hung r g.forest) ((u, v) ∷ (v, u) ∷ []) (arcs t.rest)))
              (mathlib.Core.List.Permᴰ.append_right (arcs t.rest) k.more));
          once = once_perm q (n, g.once);
          counts = omega (arith, g.counts, t.less, perm_length k.names);
        };
        keeps = λ w m. perm_in q (Memᴰ.tail m);
        reached = perm_in q (Memᴰ.head refl);
      }

  stay : (g : Grown E r) (v : ℕ) → In g v → More g v
  stay g v h = record { next = g; keeps = λ w m. m; reached = h }

  cross : (g : Grown E r) (u v : ℕ) → In g u → Memᴰ (u, v) (arcs E) → More g v
  cross g u v i h = step (dec_in v (r ∷ vertices g.forest))
    where
      step : Dec (In g v) → More g v
      step (yes m) = stay g v m
      step (no n) = ⊎_elim (λ a. absurd (n (hung_in r g.forest (u, v) a).1)) (add g u v i n) (Memᴰ.append_cases (hung r g.forest) (perm_in g.same h))

  follow : {u w : ℕ} → Walk (arcs E) u w → (g : Grown E r) → In g u → More g w
  follow {u} here g i = stay g u i
  follow {u} {w} (along {v = v} h p) g i =
      let m : More g v = cross g u v i h in
      let k : More m.next w = follow p m.next m.reached in
      record { next = k.next; keeps = λ x j. k.keeps x (m.keeps x j); reached = k.reached }

  -- grown to each of the vertices 1 to n
  reach : (n : ℕ) → ((v : ℕ) → 1 ≤ v → v ≤ n → Walk (arcs E) r v) → (g : Grown E r) × ((v : ℕ) → Memᴰ v (up_to n) → In g v)
  unfolding up_to
  reach zero w = (seed, λ v h. absurd (Memᴰ.not-nil h))
  reach (suc n) w =
      let (g, a) = reach n (λ v h k. w v h (omega arith)) in
      let m : More g (suc n) = follow (w (suc n) (omega arith) (omega arith)) g (Memᴰ.head refl) in
      (m.next, λ v h. ⊎_elim (λ e. Memᴰ.cast e m.reached) (λ k. m.keeps v (a v k)) (Memᴰ.cases_cons h))

  -- so many are grown
  wide : (n : ℕ) (g : Grown E r) → ((v : ℕ) → Memᴰ v (up_to n) → In g v) → n ≤ suc (length (vertices g.forest))
  wide n g a = omega (arith, up_to_length n, fits (up_to n) (r ∷ vertices g.forest) (up_to_once n) a)

-- to link n vertices takes n - 1 edges
pub links : (n : ℕ) (E : List ℕ) (r : ℕ) → ((v : ℕ) → 1 ≤ v → v ≤ n → Walk (arcs E) r v) → 2 * n ≤ length E + 2
links n E r w = let (g, a) = reach E r n w in omega (arith, g.counts, wide E r n g a)

no_arcs : (l : List ℕ) → length l ≡ 0 → arcs l ≡ []
unfolding arcs
no_arcs [] e = refl
no_arcs (a ∷ l) e = let z : ⊥ = omega arith in absurd z

-- a tree is a forest at any root
pub rooted_tree : (N : ℕ) (E : List ℕ) (r : ℕ) → IsTree N E → 1 ≤ r → r ≤ N → Rooted N E r
rooted_tree N E r t h k =
    let (g, a) = reach E r N (walks N E t r h k) in
    let l : length g.rest ≡ 0 = omega (arith, g.counts, t.edges, wide E r N g a) in
    let same : Permᴰ (arcs E) (hung r g.forest) = rw (no_arcs g.rest l, append-nil) at g.same in
    record {
      forest = g.forest;
      same = same;
      apart = g.once.0;
      distinct = (distinct_once g.forest).1 g.once.1;
      inside = λ v m. ⊎_elim
          (λ e. omega arith)
          (λ i. t.inside v (arc_end E (perm_in (mathlib.Core.List.Permᴰ.symm same) (parent r g.forest v i).1)))
          (Memᴰ.cases_cons m);
      all = λ v i j. a v (up_to_in N v i j);
      full = omega (arith, count-vertices g.forest, g.counts, t.edges, wide E r N g a);
    }
