-- What the parts of the code promise each other. No call that a partner makes cites this file.
--
-- A walk from s lists the vertices o in the order in which it finds them, and notes for each in up, at the vertex's own place, the one that
-- it was found from: s leads to itself, and 0 is noted for what is not found. The first h of the list are done with, and e are found.
-- In order: what up leads along; the walk; its step; what a walk leaves; a path that up leads along, for its middle. Assumes nothing.
use Rattle.std.specs.Prelude.{◌≡◌, ℕ, suc, ◌≤◌, ◌<◌, length, get_or, take}
use mathlib.Core.List.{List, [], ◌∷◌, Memᴰ}
use Rattle.laws.specs.document.Once.{Once}
use Rattle.limits.specs.document.Limits.{size}
use Rattle.skeleton.specs.document.Skeleton.{arcs, IsTree}
use Rattle.longest_path.specs.Ways.{Way}
use Rattle.longest_path.specs.Farthest.{Farthest}

-- ---- what up leads along

-- each leads to the next, and the last to itself
abbrev pub Leads : List ℕ → List ℕ → Type 0
Leads up [] = Unit {0}
Leads up (v ∷ []) = get_or up v 0 ≡ v
Leads up (v ∷ w ∷ p) = (get_or up v 0 ≡ w) × Leads up (w ∷ p)

-- from v along a way to s
pub record Climb (N : ℕ) (E up : List ℕ) (v s : ℕ) : Type 0 where
  pub way : Way N E v s
  pub leads : Leads up (v ∷ way.rest)

-- ---- the walk

-- a walk can start at s: it is a vertex, and nothing is noted
pub record Starts (n s : ℕ) (up : List ℕ) : Type 0 where
  pub low : 1 ≤ s
  pub high : s ≤ n
  pub long : length up ≡ suc size
  pub none : (v : ℕ) → get_or up v 0 ≡ 0

-- a tree that is walked from s, and how far each vertex is from s
pub record Ground (N : ℕ) (E : List ℕ) (s : ℕ) : Type 0 where
  pub tree : IsTree N E
  pub small : N ≤ size
  pub far : ℕ → ℕ
  pub is_far : (v : ℕ) (x : Way N E v s) → length x.rest ≡ far v

-- the vertices found, none farther than a later one, and none farther by more than one than the next to look at; all neighbours of those
-- that are done with are found
pub record Spread {N s : ℕ} {E : List ℕ} (g : Ground N E s) (o up : List ℕ) (h e : ℕ) : Type 0 where
  pub long_o : length o ≡ size
  pub long_up : length up ≡ suc size
  pub order : h ≤ e
  pub most : e ≤ N
  pub once : Once (take e o)
  pub source : Memᴰ s (take e o)
  pub climb : (v : ℕ) → Memᴰ v (take e o) → Climb N E up v s
  pub known : (v : ℕ) → 1 ≤ v → v ≤ N → (get_or up v 0 ≡ 0 → ⊥) → Memᴰ v (take e o)
  pub rise : (i j : ℕ) → i ≤ j → j < e → g.far (get_or o i 0) ≤ g.far (get_or o j 0)
  pub near : (j : ℕ) → j < e → h < e → g.far (get_or o j 0) ≤ suc (g.far (get_or o h 0))
  pub closed : (i : ℕ) → i < h → (w : ℕ) → Memᴰ (get_or o i 0, w) (arcs E) → Memᴰ w (take e o)

-- ---- its step

-- v is the next to look at, and its neighbours are those of a row
pub record Next {N s : ℕ} {E : List ℕ} (g : Ground N E s) (row o up : List ℕ) (v h e : ℕ) : Type 0 where
  pub spread : Spread g o up h e
  pub waits : h < e
  pub is : v ≡ get_or o h 0
  pub arc : (w : ℕ) → Memᴰ w row → Memᴰ (v, w) (arcs E)
  pub all : (w : ℕ) → Memᴰ (v, w) (arcs E) → Memᴰ w row

-- so it is in the walk of some tree
pub record Visit (row o up : List ℕ) (v e : ℕ) : Type 0 where
  pub most : ℕ
  pub from : ℕ
  pub at : ℕ
  pub edges : List ℕ
  pub ground : Ground most edges from
  pub next : Next ground row o up v at e

-- ---- what a walk leaves

-- r is farthest from s, and up leads from r to s
pub record Reached (N : ℕ) (E : List ℕ) (s : ℕ) (up : List ℕ) (r : ℕ) : Type 0 where
  pub long : length up ≡ suc size
  pub climb : Climb N E up r s
  pub farthest : Farthest N E s r

-- ---- a path that up leads along

-- from v through p
pub record Trail (up : List ℕ) (v : ℕ) (p : List ℕ) : Type 0 where
  pub long : length up ≡ suc size
  pub leads : Leads up (v ∷ p)
  pub once : Once (v ∷ p)
  pub inside : (w : ℕ) → Memᴰ w (v ∷ p) → (1 ≤ w) × (w ≤ size)

-- from v through some
pub record Trailed (up : List ℕ) (v : ℕ) : Type 0 where
  pub rest : List ℕ
  pub trail : Trail up v rest
