-- What is proved of paths and the centre, in one place. Each statement is proved by a name of another file. Assumes nothing.
use Rattle.std.specs.Prelude.{◌≡◌, ◌⊎◌, List, ◌∷◌, ℕ, ◌≤◌}
use Rattle.skeleton.specs.document.Skeleton.{IsTree, Renumbering}
use Rattle.longest_path.specs.document.Path.{IsLongest, IsCentre}
use Rattle.longest_path.specs.Middles.{SameMiddles}
use Rattle.longest_path.specs.Centre.{centre_in}
use Rattle.longest_path.specs.Run.{some_longest, middles-same, centre-same}
use Rattle.longest_path.specs.Ways.{Way}
use Rattle.longest_path.specs.Farthest.{Farthest, farthest_twice, ends_longest}
use Rattle.longest_path.specs.Turning.{turned}
use Rattle.longest_path.specs.Carry.{carry-centre}

module _ (N : ℕ) (E : List ℕ) (t : IsTree N E) where
  -- Every tree has a longest path.
  pub there_is_one : (p : List ℕ) × IsLongest N E p
  there_is_one = some_longest N E t

  -- All longest paths have the same middle vertex, or the same two.
  pub one-middle : (p q : List ℕ) → IsLongest N E p → IsLongest N E q → SameMiddles p q
  one-middle = middles-same N E t

  -- A tree has one centre, of one vertex or two.
  pub one-centre : (u v x y : ℕ) → IsCentre N E u v → IsCentre N E x y → ((x ≡ u) × (y ≡ v)) ⊎ ((x ≡ v) × (y ≡ u))
  one-centre = centre-same N E t

  -- The two of a centre have no order.
  pub centre-turned : (u v : ℕ) → IsCentre N E u v → IsCentre N E v u
  centre-turned u v c = turned c

  -- The centre is among the vertices 1 to N.
  pub centre_inside : (u v : ℕ) → IsCentre N E u v → ((1 ≤ u) × (u ≤ N)) × ((1 ≤ v) × (v ≤ N))
  centre_inside u v = centre_in N E u v t

  -- A renumbering carries the centre to the centre.
  pub centre-carried : (F : List ℕ) (ρ : Renumbering N E F) (u v : ℕ) → IsCentre N E u v → IsCentre N F (ρ.to u) (ρ.to v)
  centre-carried F = carry-centre N E F t

  -- A vertex that is farthest from any vertex ends a longest path.
  pub ends_one : (s u : ℕ) → 1 ≤ s → s ≤ N → 1 ≤ u → u ≤ N → Farthest N E s u → (v : ℕ) × (y : Way N E v u) × IsLongest N E (v ∷ y.rest)
  ends_one = ends_longest N E t

  -- The way to it from a vertex that is farthest from it is a longest path.
  pub two_walks : (s u v : ℕ) → 1 ≤ s → s ≤ N → Farthest N E s u → (x : Way N E v u) → Farthest N E u v → IsLongest N E (v ∷ x.rest)
  two_walks = farthest_twice N E t
