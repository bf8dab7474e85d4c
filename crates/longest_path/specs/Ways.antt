-- In a tree a path leads from any vertex to any other: a walk, cut short where it comes back to a vertex. Assumes nothing.
use Rattle.std.specs.Prelude.{◌≡◌, refl, ◌⊎◌, ℕ, ◌≤◌}
use Rattle.std.proofs.Common.{inl, inr, ⊎_elim}
use mathlib.Core.List.Memᴰ
use mathlib.Core.List.{List, [], ◌∷◌, ◌++◌, Memᴰ}
use Rattle.laws.specs.Perms.{dec_in}
use Rattle.skeleton.specs.document.Skeleton.{arcs, Walk, here, along, IsTree}
use Rattle.skeleton.specs.Walks.{turn, arc_end, walks}
use Rattle.longest_path.specs.document.Path.{IsPath}
use Rattle.longest_path.specs.Paths.{path_one, path_tail}

-- v is the last of them
abbrev pub Last : ℕ → List ℕ → Type 0
Last v [] = ⊥
Last v (x ∷ []) = x ≡ v
Last v (x ∷ y ∷ p) = Last v (y ∷ p)

pub last_snoc : (x : ℕ) (m : List ℕ) (v : ℕ) → Last v (x ∷ (m ++ (v ∷ [])))
last_snoc x [] v = refl
last_snoc x (y ∷ m) v = last_snoc y m v

-- a path from u to v: u, and those behind it
pub record Way (N : ℕ) (E : List ℕ) (u v : ℕ) : Type 0 where
  pub rest : List ℕ
  pub path : IsPath N E (u ∷ rest)
  pub last : Last v (u ∷ rest)

module _ (N : ℕ) (E : List ℕ) where
  -- a path from one of its vertices on
  from : (u v : ℕ) (p : List ℕ) → Memᴰ u p → IsPath N E p → Last v p → Way N E u v
  from u v [] m h l = absurd l
  from u v (x ∷ []) m h l = let e : u ≡ x = Memᴰ.eq_of_singleton m in record { rest = []; path = rw e h; last = rw e l }
  from u v (x ∷ y ∷ p) m h l = step (Memᴰ.cases_cons m) (λ (i : Memᴰ u (y ∷ p)). from u v (y ∷ p) i (path_tail N E h) l)
    where
      step : (u ≡ x) ⊎ Memᴰ u (y ∷ p) → (Memᴰ u (y ∷ p) → Way N E u v) → Way N E u v
      step (inl e) f = record { rest = y ∷ p; path = rw e h; last = l }
      step (inr i) f = f i

  module _ (t : IsTree N E) where
    shorten : {u v : ℕ} → Walk (arcs E) u v → 1 ≤ v → v ≤ N → Way N E u v
    shorten {u} here h k = record { rest = []; path = path_one N E u h k; last = refl }
    shorten {u} {v} (along {v = w} i p) h k = step (shorten p h k)
      where
        step : Way N E w v → Way N E u v
        step y = look (dec_in u (w ∷ y.rest))
          where
            look : Dec (Memᴰ u (w ∷ y.rest)) → Way N E u v
            look (yes m) = from u v (w ∷ y.rest) m y.path y.last
            look (no n) = record {
              rest = w ∷ y.rest;
              path = record {
                inside = λ x m. ⊎_elim (λ e. t.inside x (Memᴰ.cast e (arc_end E (turn E i)))) (y.path.inside x) (Memᴰ.cases_cons m);
                joined = (i, y.path.joined);
                once = (n, y.path.once);
              };
              last = y.last;
            }

    pub way : (u v : ℕ) → 1 ≤ u → u ≤ N → 1 ≤ v → v ≤ N → Way N E u v
    way u v h k i j = shorten (walks N E t u h k v i j) i j
