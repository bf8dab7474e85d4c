-- Leaves peeled off a tree, round by round. What is left is said of any predicate A of vertices, and paths are always those of the
-- whole tree: no list of what is left, no count of it and no smaller tree is spoken of.
--
-- In order: a round, and what is left after k rounds; the start; a path of what a round leaves goes on at either end, and inside a
-- path nothing is peeled; the round; how long it lasts. What is left at the end is in `Centre`. Assumes nothing.
use Rattle.std.specs.Prelude.{◌≡◌, refl, ◌⊎◌, ℕ, ◌+◌, ◌*◌, ◌≤◌, length}
use Rattle.std.proofs.Common.{sym, ap, ◌∙◌, inl, inr, ⊎_elim, arith}
use mathlib.Core.List.Memᴰ
use mathlib.Core.List.Permᴰ
use mathlib.Core.List.{List, [], ◌∷◌, ◌++◌, reverse, reverse-cons, reverse-reverse, Memᴰ}
use Rattle.std.proofs.Math.Decide.{ℕ_discrete}
use Rattle.std.proofs.lemmas.List.{length-reverse}
use Rattle.laws.specs.Perms.{perm_in}
use Rattle.laws.specs.Once.{once_apart, fits, up_to, up_to_length, up_to_in}
use Rattle.laws.specs.document.Once.{Once}
use Rattle.skeleton.specs.document.Skeleton.{arcs, IsTree}
use Rattle.skeleton.specs.Walks.{turn}
use Rattle.longest_path.specs.document.Path.{Joined, IsPath}
use Rattle.longest_path.specs.Paths.{before, path_one, path_reverse}
use Rattle.longest_path.specs.Ways.{Last, last_snoc, Way, way}
use Rattle.longest_path.specs.Inner.{Inner, inner_whole, inner_length, inner_path, inner_more}

-- v has two neighbours in A
pub record Two (E : List ℕ) (A : ℕ → Type 0) (v : ℕ) : Type 0 where
  pub one : ℕ
  pub other : ℕ
  pub differ : one ≡ other → ⊥
  pub one_in : A one
  pub other_in : A other
  pub to_one : Memᴰ (v, one) (arcs E)
  pub to_other : Memᴰ (v, other) (arcs E)

-- B is A without its vertices that have fewer than two neighbours in A
pub record Peels (E : List ℕ) (A B : ℕ → Type 0) : Type 0 where
  pub old : (v : ℕ) → B v → A v
  pub two : (v : ℕ) → B v → Two E A v
  pub all : (v : ℕ) → A v → Two E A v → B v

-- all of p is in A
abbrev pub Within : (ℕ → Type 0) → List ℕ → Type 0
Within A p = (v : ℕ) → Memᴰ v p → A v

-- A is what is left after k rounds: with two vertices the way between them; each path in A is a path of the tree without k vertices
-- at either end, and each path of the tree is one in A when it loses so many
pub record Left (N : ℕ) (E : List ℕ) (A : ℕ → Type 0) (k : ℕ) : Type 0 where
  pub range : (v : ℕ) → A v → (1 ≤ v) × (v ≤ N)
  pub between : (u v : ℕ) (w : Way N E u v) → A u → A v → Within A (u ∷ w.rest)
  pub grows : (p : List ℕ) → 1 ≤ length p → IsPath N E p → Within A p → (q : List ℕ) × IsPath N E q × Inner k q p
  pub shrinks : (q : List ℕ) → IsPath N E q → 1 + 2 * k ≤ length q → (p : List ℕ) × Inner k q p × Within A p

-- all the vertices
pub start : (N : ℕ) (E : List ℕ) (A : ℕ → Type 0) → ((v : ℕ) → A v → (1 ≤ v) × (v ≤ N)) → ((v : ℕ) → 1 ≤ v → v ≤ N → A v) → Left N E A 0
start N E A r a =
    let whole : (p : List ℕ) → IsPath N E p → Within A p = λ p h v m. a v (h.inside v m).0 (h.inside v m).1 in
    record {
      range = r;
      between = λ u v w i j. whole (u ∷ w.rest) w.path;
      grows = λ p s h w. (p, h, inner_whole p);
      shrinks = λ q h s. (q, inner_whole q, whole q h);
    }

-- the last, and those before it
unsnoc : (x : ℕ) (l : List ℕ) → (m : List ℕ) × (b : ℕ) × (x ∷ l ≡ m ++ (b ∷ []))
unsnoc x [] = ([], x, refl)
unsnoc x (y ∷ l) = let (m, b, e) = unsnoc y l in (x ∷ m, b, ap (λ (z : List ℕ). x ∷ z) e)

wrapped : (A : ℕ → Type 0) (a b : ℕ) (p : List ℕ) → A a → A b → Within A p → Within A (a ∷ (p ++ (b ∷ [])))
wrapped A a b p i j w v m =
    ⊎_elim (λ e. rw e i) (λ n. ⊎_elim (w v) (λ (o : Memᴰ v (b ∷ [])). rw (Memᴰ.eq_of_singleton o) j) (Memᴰ.append_cases p n)) (Memᴰ.cases_cons m)

module _ (N : ℕ) (E : List ℕ) (t : IsTree N E) (A : ℕ → Type 0) where
  -- a path goes on where its first vertex has two neighbours in A
  longer : (s : ℕ) (p : List ℕ) → IsPath N E (s ∷ p) → Two E A s → (a : ℕ) × A a × IsPath N E (a ∷ s ∷ p)
  longer s [] h d = (d.one, d.one_in, before N E t d.one s [] h (turn E d.to_one) tt)
  longer s (y ∷ p) h d = step (ℕ_discrete d.one y)
    where
      step : Dec (d.one ≡ y) → (a : ℕ) × A a × IsPath N E (a ∷ s ∷ y ∷ p)
      step (no n) = (d.one, d.one_in, before N E t d.one s (y ∷ p) h (turn E d.to_one) n)
      step (yes e) = (d.other, d.other_in, before N E t d.other s (y ∷ p) h (turn E d.to_other) (λ f. d.differ (e ∙ sym f)))

  -- and at its other end
  onward : (p : List ℕ) → 1 ≤ length p → IsPath N E p → ((v : ℕ) → Memᴰ v p → Two E A v) → (b : ℕ) × A b × IsPath N E (p ++ (b ∷ []))
  onward p s h d = step (reverse p) refl
    where
      step : (r : List ℕ) → reverse p ≡ r → (b : ℕ) × A b × IsPath N E (p ++ (b ∷ []))
      step [] e = let z : ⊥ = omega (arith, length-reverse p, ap length e) in absurd z
      step (x ∷ r) e =
          let (b, i, g) = longer x r (rw e at (path_reverse N E p h)) (d x (perm_in (Permᴰ.reverse p) (rw e (Memᴰ.head refl)))) in
          (b, i, rw (reverse-cons, ← e, reverse-reverse) at (path_reverse N E (b ∷ x ∷ r) g))

  -- a vertex of a path in A between two others has two neighbours in A
  midst : (x y z : ℕ) (p : List ℕ) → Joined (arcs E) (x ∷ y ∷ z ∷ p) → Once (x ∷ y ∷ z ∷ p) → Within A (x ∷ y ∷ z ∷ p) → Two E A y
  midst x y z p j o a = record {
    one = x;
    other = z;
    differ = λ e. o.0 (Memᴰ.tail (Memᴰ.head e));
    one_in = a x (Memᴰ.head refl);
    other_in = a z (Memᴰ.tail (Memᴰ.tail (Memᴰ.head refl)));
    to_one = turn E j.0;
    to_other = j.1.0;
  }

  inside : (x : ℕ) (p : List ℕ) (v : ℕ) → Joined (arcs E) (x ∷ p) → Once (x ∷ p) → Within A (x ∷ p) → Last v (x ∷ p) → (w : ℕ) → Memᴰ w p → (w ≡ v) ⊎ Two E A w
  inside x [] v j o a l w m = absurd (Memᴰ.not-nil m)
  inside x (y ∷ []) v j o a l w m = inl (Memᴰ.eq_of_singleton m ∙ l)
  inside x (y ∷ z ∷ p) v j o a l w m = step (Memᴰ.cases_cons m) (inside y (z ∷ p) v j.1 o.1 (λ u i. a u (Memᴰ.tail i)) l w)
    where
      step : (w ≡ y) ⊎ Memᴰ w (z ∷ p) → (Memᴰ w (z ∷ p) → (w ≡ v) ⊎ Two E A w) → (w ≡ v) ⊎ Two E A w
      step (inl e) f = inr (rw e (midst x y z p j o a))
      step (inr i) f = f i

  -- so a path in A without its ends is not peeled
  core : (x : ℕ) (m : List ℕ) (b : ℕ) → IsPath N E (x ∷ (m ++ (b ∷ []))) → Within A (x ∷ (m ++ (b ∷ []))) → (v : ℕ) → Memᴰ v m → Two E A v
  core x m b h w v i =
      ⊎_elim
      (λ e. absurd (once_apart m h.once.1 i (Memᴰ.head e)))
      (λ d. d)
      (inside x (m ++ (b ∷ [])) b h.joined h.once w (last_snoc x m b) v (Memᴰ.append_left (b ∷ []) i))

  both : (p : List ℕ) → 1 ≤ length p → IsPath N E p → ((v : ℕ) → Memᴰ v p → Two E A v) → (a : ℕ) × (b : ℕ) × A a × A b × IsPath N E (a ∷ (p ++ (b ∷ [])))
  both [] s h d = let z : ⊥ = omega arith in absurd z
  both (x ∷ p) s h d =
      let (b, i, g) = onward (x ∷ p) s h d in
      let (a, j, f) = longer x (p ++ (b ∷ [])) g (d x (Memᴰ.head refl)) in
      (a, b, j, i, f)

  module _ (k : ℕ) (l : Left N E A k) where
    -- each round takes two vertices from a longest path
    pub rounds : (v : ℕ) → A v → 1 + 2 * k ≤ N
    rounds v a =
        let (q, h, i) = l.grows (v ∷ []) (omega arith) (path_one N E v (l.range v a).0 (l.range v a).1) (λ w m. rw (Memᴰ.eq_of_singleton m) a) in
        omega (arith, inner_length i, up_to_length N, fits q (up_to N) h.once (λ w m. up_to_in N w (h.inside w m).0 (h.inside w m).1))

    -- two that are left are joined, or one between them has two neighbours
    next : (u v : ℕ) → A u → A v → (u ≡ v → ⊥) → Memᴰ (u, v) (arcs E) ⊎ ((x : ℕ) × A x × Two E A x)
    next u v a b n =
        let w : Way N E u v = way N E t u v (l.range u a).0 (l.range u a).1 (l.range v b).0 (l.range v b).1 in
        step w.rest w.path w.last (l.between u v w a b)
      where
        step : (p : List ℕ) → IsPath N E (u ∷ p) → Last v (u ∷ p) → Within A (u ∷ p) → Memᴰ (u, v) (arcs E) ⊎ ((x : ℕ) × A x × Two E A x)
        step [] h e w = absurd (n e)
        step (y ∷ []) h e w = inl (rw (← e) h.joined.0)
        step (y ∷ z ∷ p) h e w = inr (y, w y (Memᴰ.tail (Memᴰ.head refl)), midst u y z p h.joined h.once w)

    -- of three that are left one stays
    pub inmost : (u v w : ℕ) → A u → A v → A w → (u ≡ v → ⊥) → (u ≡ w → ⊥) → (v ≡ w → ⊥) → (x : ℕ) × A x × Two E A x
    inmost u v w a b c d e f = step (next u v a b d) (next u w a c e)
      where
        step : Memᴰ (u, v) (arcs E) ⊎ ((x : ℕ) × A x × Two E A x) → Memᴰ (u, w) (arcs E) ⊎ ((x : ℕ) × A x × Two E A x) → (x : ℕ) × A x × Two E A x
        step (inl i) (inl j) = (u, a, record { one = v; other = w; differ = f; one_in = b; other_in = c; to_one = i; to_other = j })
        step (inl i) (inr x) = x
        step (inr x) j = x

-- a round
pub round : (N : ℕ) (E : List ℕ) → IsTree N E → (A B : ℕ → Type 0) (k : ℕ) → Left N E A k → Peels E A B → Left N E B (k + 1)
round N E t A B k l r = record {
  range = λ v b. l.range v (r.old v b);
  between = between;
  grows = grows;
  shrinks = λ q h s. let (p, i, w) = l.shrinks q h (omega arith) in shrinks q p i w h s;
}
  where
    between : (u v : ℕ) (w : Way N E u v) → B u → B v → Within B (u ∷ w.rest)
    between u v w b c x m =
        let a : Within A (u ∷ w.rest) = l.between u v w (r.old u b) (r.old v c) in
        ⊎_elim
        (λ e. rw e b)
        (λ i. ⊎_elim (λ e. rw e c) (r.all x (a x m)) (inside N E t A u w.rest v w.path.joined w.path.once a w.last x i))
        (Memᴰ.cases_cons m)

    grows : (p : List ℕ) → 1 ≤ length p → IsPath N E p → Within B p → (q : List ℕ) × IsPath N E q × Inner (k + 1) q p
    grows p s h w =
        let (a, b, i, j, f) = both N E t A p s h (λ v m. r.two v (w v m)) in
        let (q, g, n) = l.grows (a ∷ (p ++ (b ∷ []))) (omega arith) f (wrapped A a b p i j (λ v m. r.old v (w v m))) in
        (q, g, inner_more a b n)

    shrinks : (q p : List ℕ) → Inner k q p → Within A p → IsPath N E q → 1 + 2 * (k + 1) ≤ length q → (m : List ℕ) × Inner (k + 1) q m × Within B m
    shrinks q [] i w h s = let z : ⊥ = omega (arith, inner_length i) in absurd z
    shrinks q (x ∷ []) i w h s = let z : ⊥ = omega (arith, inner_length i) in absurd z
    shrinks q (x ∷ y ∷ p) i w h s = let (m, b, e) = unsnoc y p in cut m b e
      where
        cut : (m : List ℕ) (b : ℕ) → y ∷ p ≡ m ++ (b ∷ []) → (m : List ℕ) × Inner (k + 1) q m × Within B m
        cut m b e =
            let n : Inner k q (x ∷ (m ++ (b ∷ []))) = rw e at i in
            let a : Within A (x ∷ (m ++ (b ∷ []))) = rw e at w in
            (m, inner_more x b n, λ v j. r.all v (a v (Memᴰ.tail (Memᴰ.append_left (b ∷ []) j))) (core N E t A x m b (inner_path N E n h) a v j))
