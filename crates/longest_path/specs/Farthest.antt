-- A vertex that is farthest from any vertex ends a longest path; so a way from such a vertex to one farthest from it is a longest path.
--
-- In order: farthest vertices; lists that begin differently; two paths from one vertex made one way, and that there is one way only; where
-- the way from a vertex joins a path; the theorems. Nothing is said of how a farthest vertex is found. Assumes nothing.
use Rattle.std.specs.Prelude.{◌≡◌, refl, ◌⊎◌, ℕ, suc, ◌+◌, ◌≤◌, length}
use Rattle.std.proofs.Common.{sym, subst, ◌∙◌, inl, inr, ⊎_elim, arith}
use mathlib.Core.List.Memᴰ
use mathlib.Core.List.{List, [], ◌∷◌, Memᴰ}
use Rattle.std.proofs.Math.Decide.{ℕ_discrete}
use Rattle.laws.specs.document.Once.{Once}
use Rattle.skeleton.specs.document.Skeleton.{IsTree}
use Rattle.skeleton.specs.Walks.{turn}
use Rattle.longest_path.specs.document.Path.{IsPath, IsLongest}
use Rattle.longest_path.specs.Paths.{NotFirst, before, path_tail, path_one}
use Rattle.longest_path.specs.Ways.{Last, Way, way}
use Rattle.longest_path.specs.Centre.{longest_some}
use Rattle.longest_path.specs.Run.{some_longest}

-- u is farthest from s: no way to s is longer than that from u
abbrev pub Farthest : ℕ → List ℕ → ℕ → ℕ → Type 0
Farthest N E s u = (x : Way N E u s) (v : ℕ) (y : Way N E v s) → length y.rest ≤ length x.rest

-- two lists do not begin with the same vertex
abbrev Apart : List ℕ → List ℕ → Type 0
Apart [] m = Unit {0}
Apart (x ∷ l) m = NotFirst x m

apart_turn : (l m : List ℕ) → Apart l m → Apart m l
apart_turn l [] n = tt
apart_turn [] (y ∷ m) n = tt
apart_turn (x ∷ l) (y ∷ m) n = λ e. n (sym e)

-- of two that begin differently one begins differently from a third
either : (l r v : List ℕ) → Apart l r → Apart l v ⊎ Apart r v
either [] r v n = inl tt
either (x ∷ l) [] v n = inr tt
either (x ∷ l) (y ∷ r) [] n = inl tt
either (x ∷ l) (y ∷ r) (z ∷ v) n = step (ℕ_discrete x z)
  where
    step : Dec (x ≡ z) → (x ≡ z → ⊥) ⊎ (y ≡ z → ⊥)
    step (yes e) = inr (λ f. n (e ∙ sym f))
    step (no d) = inl d

past_first : (m x : ℕ) (l : List ℕ) → Once (m ∷ x ∷ l) → NotFirst m l
past_first m x [] o = tt
past_first m x (y ∷ l) o = λ e. o.0 (Memᴰ.tail (Memᴰ.head e))

last_in : (v : ℕ) (p : List ℕ) → Last v p → Memᴰ v p
last_in v [] l = absurd l
last_in v (x ∷ []) l = Memᴰ.head (sym l)
last_in v (x ∷ y ∷ p) l = Memᴰ.tail (last_in v (y ∷ p) l)

-- a way to v, from the last of m ∷ l by m, and then along r
record Joint (N : ℕ) (E : List ℕ) (m : ℕ) (l r : List ℕ) (v : ℕ) : Type 0 where
  end : ℕ
  ends : (u : ℕ) → Last u (m ∷ l) → u ≡ end
  way : Way N E end v
  long : length way.rest ≡ length l + length r

-- a path with n edges, as a vertex of it and what lies on either side, l and r; and a way w from there to u that does not begin as l does
record Arms (N : ℕ) (E : List ℕ) (n u at : ℕ) (l r w : List ℕ) : Type 0 where
  path_l : IsPath N E (at ∷ l)
  path_r : IsPath N E (at ∷ r)
  path_w : IsPath N E (at ∷ w)
  last : Last u (at ∷ w)
  apart : Apart l r
  off_l : Apart l w
  long : length l + length r ≡ n

-- where the way to u leaves the path
record Fork (N : ℕ) (E : List ℕ) (n u : ℕ) : Type 0 where
  at : ℕ
  one : List ℕ
  other : List ℕ
  out : List ℕ
  arms : Arms N E n u at one other out
  off_r : Apart other out

module _ (N : ℕ) (E : List ℕ) (t : IsTree N E) where
  joint : (m : ℕ) (l r : List ℕ) (v : ℕ) → IsPath N E (m ∷ l) → IsPath N E (m ∷ r) → Last v (m ∷ r) → Apart l r → Joint N E m l r v
  joint m [] r v h k i n = record { end = m; ends = λ u e. sym e; way = record { rest = r; path = k; last = i }; long = omega arith }
  joint m (x ∷ l) r v h k i n =
      let j : Joint N E x l (m ∷ r) v =
      joint x l (m ∷ r) v (path_tail N E h) (before N E t x m r k (turn E h.joined.0) n) i (apart_turn (m ∷ r) l (past_first m x l h.once)) in
      record { end = j.end; ends = j.ends; way = j.way; long = omega (arith, j.long) }

  split : (m : ℕ) (l r : List ℕ) (u v : ℕ) → IsPath N E (m ∷ l) → IsPath N E (m ∷ r) → Last u (m ∷ l) → Last v (m ∷ r) → Apart l r → (x : Way N E u v) × (length x.rest ≤ length l + length r)
  split m l r u v h k i j n = let c : Joint N E m l r v = joint m l r v h k j n in rw (c.ends u i) (c.way, omega (arith, c.long))

  -- between the ends of two paths from m a way is no longer than both together
  triangle : (m : ℕ) (l r : List ℕ) (u v : ℕ) → IsPath N E (m ∷ l) → IsPath N E (m ∷ r) → Last u (m ∷ l) → Last v (m ∷ r) → (x : Way N E u v) × (length x.rest ≤ length l + length r)
  triangle m [] r u v h k i j = split m [] r u v h k i j tt
  triangle m (x ∷ l) [] u v h k i j = split m (x ∷ l) [] u v h k i j tt
  triangle m (x ∷ l) (y ∷ r) u v h k i j = step (ℕ_discrete x y) (λ (g : IsPath N E (x ∷ r)) (z : Last v (x ∷ r)). triangle x l r u v (path_tail N E h) g i z)
    where
      step : Dec (x ≡ y) → (IsPath N E (x ∷ r) → Last v (x ∷ r) → (w : Way N E u v) × (length w.rest ≤ length l + length r)) → (w : Way N E u v) × (length w.rest ≤ suc (length l) + suc (length r))
      step (yes e) f = let (w, b) = f (rw e (path_tail N E k)) (subst (λ (z : ℕ). Last v (z ∷ r)) (sym e) j) in (w, omega arith)
      step (no n) f = split m (x ∷ l) (y ∷ r) u v h k i j n

  same_way : (a : ℕ) (p q : List ℕ) (b : ℕ) → IsPath N E (a ∷ p) → IsPath N E (a ∷ q) → Last b (a ∷ p) → Last b (a ∷ q) → p ≡ q
  same_way a [] [] b h k i j = refl
  same_way a [] (y ∷ q) b h k i j = absurd (k.once.0 (Memᴰ.cast i (last_in b (y ∷ q) j)))
  same_way a (x ∷ p) [] b h k i j = absurd (h.once.0 (Memᴰ.cast j (last_in b (x ∷ p) i)))
  same_way a (x ∷ p) (y ∷ q) b h k i j = step (ℕ_discrete x y) (λ (r : List ℕ) (g : IsPath N E (x ∷ r)) (z : Last b (x ∷ r)). same_way x p r b (path_tail N E h) g i z)
    where
      step : Dec (x ≡ y) → ((r : List ℕ) → IsPath N E (x ∷ r) → Last b (x ∷ r) → p ≡ r) → x ∷ p ≡ y ∷ q
      step (yes e) f = let d : p ≡ q = f q (rw e (path_tail N E k)) (subst (λ (z : ℕ). Last b (z ∷ q)) (sym e) j) in cc
      step (no n) f =
          let d : p ≡ a ∷ y ∷ q = f (a ∷ y ∷ q) (before N E t x a (y ∷ q) k (turn E h.joined.0) n) j in
          absurd (h.once.0 (Memᴰ.tail (rw d (Memᴰ.head refl))))

  -- there is one way from u to v
  pub one_way : {u v : ℕ} (x y : Way N E u v) → x.rest ≡ y.rest
  one_way {u} {v} x y = same_way u x.rest y.rest v x.path y.path x.last y.last

  -- as long as the way begins as r does, go on along r
  fork : (n u m : ℕ) (l r w : List ℕ) → Arms N E n u m l r w → Fork N E n u
  fork n u m l [] w a = record { at = m; one = l; other = []; out = w; arms = a; off_r = tt }
  fork n u m l (y ∷ r) [] a = record { at = m; one = l; other = y ∷ r; out = []; arms = a; off_r = tt }
  fork n u m l (y ∷ r) (z ∷ w) a = step (ℕ_discrete y z) (fork n u y (m ∷ l) r w)
    where
      step : Dec (y ≡ z) → (Arms N E n u y (m ∷ l) r w → Fork N E n u) → Fork N E n u
      step (yes e) f =
          f (record {
            path_l = before N E t y m l a.path_l (turn E a.path_r.joined.0) (apart_turn l (y ∷ r) a.apart);
            path_r = path_tail N E a.path_r;
            path_w = rw e (path_tail N E a.path_w);
            last = subst (λ (z : ℕ). Last u (z ∷ w)) (sym e) a.last;
            apart = past_first m y r a.path_r.once;
            off_l = past_first m z w a.path_w.once;
            long = omega (arith, a.long);
          })
      step (no d) f = record { at = m; one = l; other = y ∷ r; out = z ∷ w; arms = a; off_r = d }

  module _ (s u : ℕ) (f : Farthest N E s u) where
    -- a path from m that does not begin as the way to s does is no longer than the way to u
    half : (m : ℕ) (l w v : List ℕ) → IsPath N E (m ∷ l) → IsPath N E (m ∷ w) → Last u (m ∷ w) → IsPath N E (m ∷ v) → Last s (m ∷ v) → Apart l v → length l ≤ length w
    half m l w v h k i g j n =
        let c : Joint N E m l v s = joint m l v s h g j n in
        let (x, b) = triangle m w v u s k g i j in
        omega (arith, c.long, f x c.end c.way)

    -- to u there is a way as long as any path
    reach : 1 ≤ s → s ≤ N → 1 ≤ u → u ≤ N → (a : ℕ) (q : List ℕ) → IsPath N E (a ∷ q) → (v : ℕ) × (y : Way N E v u) × (length q ≤ length y.rest)
    reach b c d e a q h =
        let in-a : (1 ≤ a) × (a ≤ N) = h.inside a (Memᴰ.head refl) in
        let w : Way N E a u = way N E t a u in-a.0 in-a.1 d e in
        step (fork (length q) u a [] q w.rest (record { path_l = path_one N E a in-a.0 in-a.1; path_r = h; path_w = w.path; last = w.last; apart = tt; off_l = tt; long = omega arith }))
      where
        step : Fork N E (length q) u → (v : ℕ) × (y : Way N E v u) × (length q ≤ length y.rest)
        step k =
            let i : (1 ≤ k.at) × (k.at ≤ N) = k.arms.path_l.inside k.at (Memᴰ.head refl) in
            let x : Way N E k.at s = way N E t k.at s i.0 i.1 b c in
            let z : (l : List ℕ) → IsPath N E (k.at ∷ l) → Apart l x.rest → length l ≤ length k.out =
            λ l g n. half k.at l k.out x.rest g k.arms.path_w k.arms.last x.path x.last n in
            ⊎_elim
            (λ n.
            let j : Joint N E k.at k.other k.out u = joint k.at k.other k.out u k.arms.path_r k.arms.path_w k.arms.last k.off_r in
            (j.end, j.way, omega (arith, j.long, k.arms.long, z k.one k.arms.path_l n)))
            (λ n.
            let j : Joint N E k.at k.one k.out u = joint k.at k.one k.out u k.arms.path_l k.arms.path_w k.arms.last k.arms.off_l in
            (j.end, j.way, omega (arith, j.long, k.arms.long, z k.other k.arms.path_r n)))
            (either k.one k.other x.rest k.arms.apart)

  -- where u is farthest from any vertex, and v from u, the way from v to u is a longest path
  pub farthest_twice : (s u v : ℕ) → 1 ≤ s → s ≤ N → Farthest N E s u → (x : Way N E v u) → Farthest N E u v → IsLongest N E (v ∷ x.rest)
  farthest_twice s u v b c f x g = record { path = x.path; longest = longest }
    where
      longest : (q : List ℕ) → IsPath N E q → length q ≤ suc (length x.rest)
      longest [] h = omega arith
      longest (a ∷ q) h =
          let i : (1 ≤ u) × (u ≤ N) = x.path.inside u (last_in u (v ∷ x.rest) x.last) in
          let (w, y, l) = reach s u f b c i.0 i.1 a q h in
          omega (arith, g x w y)

  -- a vertex farthest from any vertex ends a longest path
  pub ends_longest : (s u : ℕ) → 1 ≤ s → s ≤ N → 1 ≤ u → u ≤ N → Farthest N E s u → (v : ℕ) × (y : Way N E v u) × IsLongest N E (v ∷ y.rest)
  ends_longest s u b c d e f = let (p, l) = some_longest N E t in step p l (longest_some N E p t l)
    where
      step : (p : List ℕ) → IsLongest N E p → 1 ≤ length p → (v : ℕ) × (y : Way N E v u) × IsLongest N E (v ∷ y.rest)
      step [] h o = let z : ⊥ = omega arith in absurd z
      step (a ∷ q) h o =
          let (v, y, l) = reach s u f b c d e a q h.path in
          (v, y, record { path = y.path; longest = λ p k. omega (arith, h.longest p k) })
