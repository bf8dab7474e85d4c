-- When peeling has left one vertex, or two, they are the centre, and the middles of every longest path.
--
-- In order: the middles of longest paths are vertices of the tree, and are never peeled; the path that the last one or two make, and
-- what any other path of them is; the centre. That peeling comes to this is in `Run`.
-- Assumes nothing.
use Rattle.std.specs.Prelude.{◌≡◌, refl, ◌⊎◌, ℕ, ◌+◌, ◌-◌, ◌*◌, ◌/◌, ◌≤◌, ◌<◌, length, get_or}
use Rattle.std.proofs.Math.Path.{sym}
use Rattle.std.proofs.Common.{◌∙◌, arith}
use Rattle.std.proofs.Math.Logic.{inl, inr, ⊎_elim}
use mathlib.Core.List.Memᴰ
use mathlib.Core.List.{List, [], ◌∷◌, Memᴰ}
use Rattle.std.proofs.Math.Decide.{dec_le}
use Rattle.laws.specs.Once.{fits}
use Rattle.laws.specs.document.Once.{Once}
use Rattle.laws.specs.Places.{at_in}
use Rattle.skeleton.specs.document.Skeleton.{IsTree}
use Rattle.longest_path.specs.document.Path.{IsPath, IsLongest, middle₁, middle₂, IsCentre}
use Rattle.longest_path.specs.Middles.{Middles}
use Rattle.longest_path.specs.Paths.{path_one}
use Rattle.longest_path.specs.Ways.{Last, Way, way}
use Rattle.longest_path.specs.Inner.{Inner, inner_length, inner_path, inner_middle₁, inner_middle₂}
use Rattle.longest_path.specs.Peel.{Within, Left}

middles_within : (A : ℕ → Type 0) (p : List ℕ) → Within A p → 1 ≤ length p → A (middle₁ p) × A (middle₂ p)
unfolding middle₁ middle₂
middles_within A p w o =
    let at : (n : ℕ) → n < length p → A (get_or p n 0) = λ n l. w (get_or p n 0) (at_in p n 0 l) in
    (at ((length p - 1) / 2) (omega arith), at (length p / 2) (omega arith))

-- a longest path has a vertex
pub longest_some : (N : ℕ) (E p : List ℕ) → IsTree N E → IsLongest N E p → 1 ≤ length p
longest_some N E p t h = h.longest (1 ∷ []) (path_one N E 1 (omega arith) (omega (arith, t.edges)))

-- the centre is of the tree's vertices
pub centre_in : (N : ℕ) (E : List ℕ) (u v : ℕ) → IsTree N E → IsCentre N E u v → ((1 ≤ u) × (u ≤ N)) × ((1 ≤ v) × (v ≤ N))
centre_in N E u v t c =
    let s : 1 ≤ length c.path = longest_some N E c.path t c.longest in
    rw (c.first, c.second) at (middles_within (λ w. (1 ≤ w) × (w ≤ N)) c.path c.longest.path.inside s)

-- as long as a vertex is left, the middles of every longest path are
pub middles-left : (N : ℕ) (E : List ℕ) (A : ℕ → Type 0) (k : ℕ) → Left N E A k → (v : ℕ) → A v → (q : List ℕ) → IsLongest N E q → A (middle₁ q) × A (middle₂ q)
middles-left N E A k l v a q h =
    let (w, g, j) = l.grows (v ∷ []) (omega arith) (path_one N E v (l.range v a).0 (l.range v a).1) (λ x m. rw (Memᴰ.eq_of_singleton m) a) in
    let (p, i, b) = l.shrinks q h.path (omega (arith, inner_length j, h.longest w g)) in
    let o : 1 ≤ length p = omega (arith, inner_length i, inner_length j, h.longest w g) in
    rw (inner_middle₁ i o, inner_middle₂ i o) (middles_within A p b o)

-- a longest path in A, and what any other is
record Heart (N : ℕ) (E : List ℕ) (A : ℕ → Type 0) (u v : ℕ) : Type 0 where
  path : List ℕ
  some : 1 ≤ length path
  is : IsPath N E path
  within : Within A path
  first : middle₁ path ≡ u
  second : middle₂ path ≡ v
  most : (p : List ℕ) → Within A p → Once p → length p ≤ length path
  alike : (p : List ℕ) → Within A p → Once p → length p ≡ length path → Middles p u v

-- A is u and v alone, after k rounds
module _ (N : ℕ) (E : List ℕ) (t : IsTree N E) (A : ℕ → Type 0) (k : ℕ) (l : Left N E A k) (u v : ℕ) (a : A u) (b : A v) (only : (w : ℕ) → A w → (w ≡ u) ⊎ (w ≡ v)) where
  -- one vertex
  lone : u ≡ v → Heart N E A u v
  unfolding middle₁ middle₂
  lone e = record {
    path = u ∷ [];
    some = omega arith;
    is = path_one N E u (l.range u a).0 (l.range u a).1;
    within = λ w m. rw (Memᴰ.eq_of_singleton m) a;
    first = refl;
    second = e;
    most = λ p w o. fits p (u ∷ []) o (λ x m. Memᴰ.head (it x (w x m)));
    alike = alike;
  }
    where
      it : (x : ℕ) → A x → x ≡ u
      it x h = ⊎_elim (λ f. f) (λ f. f ∙ sym e) (only x h)

      alike : (p : List ℕ) → Within A p → Once p → length p ≡ 1 → Middles p u v
      alike [] w o s = let z : ⊥ = omega arith in absurd z
      alike (x ∷ []) w o s = let f : x ≡ u = it x (w x (Memᴰ.head refl)) in inl (f, f ∙ e)
      alike (x ∷ y ∷ p) w o s = let z : ⊥ = omega arith in absurd z

  at_most_two : (p : List ℕ) → Within A p → Once p → length p ≤ 2
  at_most_two p w o = fits p (u ∷ v ∷ []) o (λ x m. ⊎_elim Memᴰ.head (λ f. Memᴰ.tail (Memᴰ.head f)) (only x (w x m)))

  pair : IsPath N E (u ∷ v ∷ []) → Heart N E A u v
  unfolding middle₁ middle₂
  pair h = record {
    path = u ∷ v ∷ [];
    some = omega arith;
    is = h;
    within = λ w m. ⊎_elim (λ e. rw e a) (λ (n : Memᴰ w (v ∷ [])). rw (Memᴰ.eq_of_singleton n) b) (Memᴰ.cases_cons m);
    first = refl;
    second = refl;
    most = at_most_two;
    alike = alike;
  }
    where
      two : (x y : ℕ) → (x ≡ y → ⊥) → (x ≡ u) ⊎ (x ≡ v) → (y ≡ u) ⊎ (y ≡ v) → Middles (x ∷ y ∷ []) u v
      two x y n (inl e) (inl f) = absurd (n (e ∙ sym f))
      two x y n (inl e) (inr f) = inl (e, f)
      two x y n (inr e) (inl f) = inr (e, f)
      two x y n (inr e) (inr f) = absurd (n (e ∙ sym f))

      alike : (p : List ℕ) → Within A p → Once p → length p ≡ 2 → Middles p u v
      alike [] w o s = let z : ⊥ = omega arith in absurd z
      alike (x ∷ []) w o s = let z : ⊥ = omega arith in absurd z
      alike (x ∷ y ∷ []) w o s = two x y (λ e. o.0 (Memᴰ.head e)) (only x (w x (Memᴰ.head refl))) (only y (w y (Memᴰ.tail (Memᴰ.head refl))))
      alike (x ∷ y ∷ z ∷ p) w o s = let z : ⊥ = omega arith in absurd z

  heart : Heart N E A u v
  heart =
      let w : Way N E u v = way N E t u v (l.range u a).0 (l.range u a).1 (l.range v b).0 (l.range v b).1 in
      step w.rest w.path w.last (l.between u v w a b)
    where
      step : (p : List ℕ) → IsPath N E (u ∷ p) → Last v (u ∷ p) → Within A (u ∷ p) → Heart N E A u v
      step [] h e w = lone e
      step (y ∷ []) h e w = pair (rw (← e) h)
      step (y ∷ z ∷ p) h e w = let z : ⊥ = omega (arith, at_most_two (u ∷ y ∷ z ∷ p) w h.once) in absurd z

  bound : (q : List ℕ) → IsPath N E q → length q ≤ length heart.path + 2 * k
  bound q h = step (dec_le (1 + 2 * k) (length q))
    where
      step : Dec (1 + 2 * k ≤ length q) → length q ≤ length heart.path + 2 * k
      step (yes s) = let (p, i, w) = l.shrinks q h s in omega (arith, inner_length i, heart.most p w (inner_path N E i h).once)
      step (no n) = omega (arith, heart.some)

  whole : (q : List ℕ) × IsPath N E q × Inner k q heart.path
  whole = l.grows heart.path heart.some heart.is heart.within

  -- they are the centre
  pub done : IsCentre N E u v
  done = record {
    path = whole.0;
    longest = record { path = whole.1; longest = λ q h. omega (arith, bound q h, inner_length whole.2) };
    first = inner_middle₁ whole.2 heart.some ∙ heart.first;
    second = inner_middle₂ whole.2 heart.some ∙ heart.second;
  }

  -- and the middles of every longest path
  pub all_alike : (q : List ℕ) → IsLongest N E q → Middles q u v
  all_alike q h =
      let s : length q ≡ length heart.path + 2 * k = omega (arith, bound q h.path, h.longest whole.0 whole.1, inner_length whole.2) in
      let (p, i, w) = l.shrinks q h.path (omega (arith, heart.some)) in
      let r : length p ≡ length heart.path = omega (arith, inner_length i) in
      let o : 1 ≤ length p = omega (arith, heart.some) in
      rw (inner_middle₁ i o, inner_middle₂ i o) (heart.alike p w (inner_path N E i h.path).once r)
