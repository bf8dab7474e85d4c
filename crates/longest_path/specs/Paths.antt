-- Paths turned round and cut; a tree has no cycle, so a path goes on to any neighbour of its first vertex but the next one.
-- Assumes nothing.
use Rattle.std.specs.Prelude.{◌≡◌, ◌⊎◌, ℕ, ◌≤◌, ◌+◌, length}
use Rattle.std.proofs.Common.{sym, ap, inl, inr, ⊎_elim, arith}
use mathlib.Core.List.Memᴰ
use mathlib.Core.List.Permᴰ
use mathlib.Core.List.{List, [], ◌∷◌, ◌++◌, reverse_aux, reverse, Memᴰ, Permᴰ}
use Rattle.laws.specs.Perms.{perm_in}
use Rattle.laws.specs.Once.{once_perm, once_left, once_right}
use Rattle.laws.specs.document.Once.{Once}
use Rattle.skeleton.specs.document.Skeleton.{Arc, arcs, Walk, here, along, IsTree}
use Rattle.skeleton.specs.Walks.{turn, arc_end, walk_on, walk-back}
use Rattle.skeleton.specs.Grow.{Taken, take_edge, links}
use Rattle.longest_path.specs.document.Path.{Joined, IsPath}

joined-tail : (A : List Arc) (v : ℕ) (p : List ℕ) → Joined A (v ∷ p) → Joined A p
joined-tail A v [] j = tt
joined-tail A v (w ∷ p) j = j.1

joined_right : (A : List Arc) (l m : List ℕ) → Joined A (l ++ m) → Joined A m
joined_right A [] m j = j
joined_right A (v ∷ l) m j = joined_right A l m (joined-tail A v (l ++ m) j)

joined-left : (A : List Arc) (l m : List ℕ) → Joined A (l ++ m) → Joined A l
joined-left A [] m j = tt
joined-left A (v ∷ []) m j = tt
joined-left A (v ∷ w ∷ l) m j = (j.0, joined-left A (w ∷ l) m j.1)

joined_turn : (E : List ℕ) (x : ℕ) (p r : List ℕ) → Joined (arcs E) (x ∷ p) → Joined (arcs E) (x ∷ r) → Joined (arcs E) (reverse_aux p (x ∷ r))
joined_turn E x [] r h k = k
joined_turn E x (y ∷ p) r h k = joined_turn E y p (x ∷ r) h.1 (turn E h.0, k)

joined_reverse : (E p : List ℕ) → Joined (arcs E) p → Joined (arcs E) (reverse p)
joined_reverse E [] h = tt
joined_reverse E (x ∷ p) h = joined_turn E x p [] h tt

module _ (N : ℕ) (E : List ℕ) where
  pub path_tail : {v : ℕ} {p : List ℕ} → IsPath N E (v ∷ p) → IsPath N E p
  path_tail {v} {p} h = record { inside = λ w m. h.inside w (Memᴰ.tail m); joined = joined-tail (arcs E) v p h.joined; once = h.once.1 }

  -- the part of a path between two others
  pub path_part : (l p m : List ℕ) → IsPath N E (l ++ (p ++ m)) → IsPath N E p
  path_part l p m h = record {
    inside = λ w i. h.inside w (Memᴰ.append_right l (Memᴰ.append_left m i));
    joined = joined-left (arcs E) p m (joined_right (arcs E) l (p ++ m) h.joined);
    once = once_left p m (once_right l (p ++ m) h.once);
  }

  pub path_reverse : (p : List ℕ) → IsPath N E p → IsPath N E (reverse p)
  path_reverse p h = record {
    inside = λ w m. h.inside w (perm_in (Permᴰ.reverse p) m);
    joined = joined_reverse E p h.joined;
    once = once_perm (Permᴰ.symm (Permᴰ.reverse p)) h.once;
  }

  pub path_one : (v : ℕ) → 1 ≤ v → v ≤ N → IsPath N E (v ∷ [])
  path_one v h k = record { inside = λ w m. ⊎_elim (λ e. omega arith) (λ n. absurd (Memᴰ.not-nil n)) (Memᴰ.cases_cons m); joined = tt; once = (Memᴰ.not-nil, tt) }

-- a is not the first of them
abbrev pub NotFirst : ℕ → List ℕ → Type 0
NotFirst a [] = Unit {0}
NotFirst a (x ∷ r) = a ≡ x → ⊥

-- an arc from y to z is that from a to u, or that from u to a, or one of R
data Which (a u : ℕ) (R : List Arc) (y z : ℕ) : Type 0 where
  that : y ≡ a → z ≡ u → Which a u R y z
  turned : y ≡ u → z ≡ a → Which a u R y z
  another : Memᴰ (y, z) R → Which a u R y z

-- R: the edges of a tree but that between a and u. Were there another way between the two, R would link all vertices.
module _ (N : ℕ) (E : List ℕ) (t : IsTree N E) (a u : ℕ) (R : List ℕ) (less : length E ≡ length R + 2) (same : Permᴰ (arcs E) ((a, u) ∷ (u, a) ∷ arcs R)) where
  which : (y z : ℕ) → Memᴰ (y, z) (arcs E) → Which a u (arcs R) y z
  which y z m =
      ⊎_elim
      (λ e. that (ap (λ (x : Arc). x.0) e) (ap (λ (x : Arc). x.1) e))
      (λ n. ⊎_elim (λ e. turned (ap (λ (x : Arc). x.0) e) (ap (λ (x : Arc). x.1) e)) another (Memᴰ.cases_cons n))
      (Memᴰ.cases_cons (perm_in same m))

  -- a path that has left u, along the others
  leads : (x : ℕ) (p : List ℕ) → Joined (arcs E) (x ∷ p) → (Memᴰ u (x ∷ p) → ⊥) → Memᴰ a (x ∷ p) → Walk (arcs R) x a
  leads x [] j n m = rw (Memᴰ.eq_of_singleton m) here
  leads x (y ∷ p) j n m = start (Memᴰ.cases_cons m) (which x y j.0) (leads y p j.1 (λ i. n (Memᴰ.tail i)))
    where
      start : (a ≡ x) ⊎ Memᴰ a (y ∷ p) → Which a u (arcs R) x y → (Memᴰ a (y ∷ p) → Walk (arcs R) y a) → Walk (arcs R) x a
      start (inl e) c f = rw e here
      start (inr i) (that e g) f = absurd (n (Memᴰ.tail (Memᴰ.head (sym g))))
      start (inr i) (turned e g) f = absurd (n (Memᴰ.head (sym e)))
      start (inr i) (another q) f = along q (f i)

  -- from u to a along the others
  around : (r : List ℕ) → Joined (arcs E) (u ∷ r) → Once (u ∷ r) → NotFirst a r → Memᴰ a (u ∷ r) → Walk (arcs R) u a
  around [] j o n m = rw (Memᴰ.eq_of_singleton m) here
  around (x ∷ r) j o n m = start (Memᴰ.cases_cons m) (which u x j.0)
    where
      start : (a ≡ u) ⊎ Memᴰ a (x ∷ r) → Which a u (arcs R) u x → Walk (arcs R) u a
      start (inl e) c = rw e here
      start (inr i) (that e g) = absurd (o.0 (Memᴰ.head (sym g)))
      start (inr i) (turned e g) = absurd (n (sym g))
      start (inr i) (another q) = along q (leads x r j.1 o.0 i)

  detour : {y z : ℕ} → Walk (arcs E) y z → Walk (arcs R) u a → Walk (arcs R) y z
  detour here w = here
  detour {y} {z} (along {v = v} q p) w = step (which y v q) (detour p w)
    where
      step : Which a u (arcs R) y v → Walk (arcs R) v z → Walk (arcs R) y z
      step (that e g) r = walk_on (rw (e, g) (walk-back R w)) r
      step (turned e g) r = walk_on (rw (e, g) w) r
      step (another i) r = along i r

  only_way : Walk (arcs R) u a → ⊥
  only_way w = omega (arith, t.edges, links N R 1 (λ v h k. detour (t.linked v h k) w))

-- a tree has no cycle
pub before : (N : ℕ) (E : List ℕ) → IsTree N E → (a u : ℕ) (r : List ℕ) → IsPath N E (u ∷ r) → Memᴰ (a, u) (arcs E) → NotFirst a r → IsPath N E (a ∷ u ∷ r)
before N E t a u r p h n =
    let k : Taken E a u = take_edge E h in
    record {
      inside = λ v m. ⊎_elim (λ e. t.inside v (Memᴰ.cast e (arc_end E (turn E h)))) (p.inside v) (Memᴰ.cases_cons m);
      joined = (h, p.joined);
      once = (λ m. only_way N E t a u k.rest k.less k.same (around N E t a u k.rest k.less k.same r p.joined p.once n m), p.once);
    }
