-- A walk from its source to its last vertex.
--
-- In order: how far each vertex is; the walk's start; where not all are found, one waits; a step; what is true when all are found; what the
-- code knows of the next vertex. Assumes nothing.
use mathlib.Core.Path.{◌≡◌, refl, sym, ap, ◌∙◌}
use mathlib.Core.Logic.Dec
use mathlib.Core.Logic.{⊎_elim}
use mathlib.Core.List.Memᴰ
use mathlib.Core.List.{List, [], ◌∷◌, Memᴰ}
use Prim.Native.Nat.{ℕ, suc, ◌-◌, ◌≤◌, ◌<◌}
use native.Mathlib.Decide.{ℕ_discrete, dec_le, dec_lt}
use native.Mathlib.Omega.{arith}
use lib.ListN.{length, get_or, take, set, length-set}
use lib.Seq.{get_or-set_same, get_or-set_other, get_or-take, take-suc-set, length-take-le}
use Rattle.limits.specs.document.Limits.{size}
use Rattle.limits.specs.Width.{width}
use Rattle.laws.specs.Perms.{dec_in}
use Rattle.laws.specs.Once.{fits, up_to, up_to_length, up_to_in, up_to_once, in_up_to}
use Rattle.laws.specs.Places.{place, place_at}
use Rattle.skeleton.specs.document.Skeleton.{arcs, Walk, here, along, IsTree}
use Rattle.skeleton.specs.Walks.{walks}
use Rattle.edge_list.specs.Table.{deg, IsTable, Held}
use Rattle.longest_path.specs.Paths.{path_one}
use Rattle.longest_path.specs.Ways.{Way, way}
use Rattle.longest_path.specs.Farthest.{one_way}
use Rattle.centre.specs.Walking.{Starts, Ground, Spread, Next, Visit, Reached}
use Rattle.centre.proofs.Rows.{row, few, row_arc, arc_row}
use Rattle.centre.proofs.Found.{inside, at}

-- ---- how far each vertex is

module _ (N : ℕ) (E : List ℕ) (s : ℕ) (t : IsTree N E) (low : 1 ≤ s) (high : s ≤ N) where
  away : (v : ℕ) → Dec ((1 ≤ v) × (v ≤ N)) → ℕ
  away v (yes i) = length (way N E t v s i.0 i.1 low high).rest
  away v (no n) = 0

  is_away : (v : ℕ) (x : Way N E v s) (d : Dec ((1 ≤ v) × (v ≤ N))) → length x.rest ≡ away v d
  unfolding away
  is_away v x (yes i) = ap length (one_way N E t x (way N E t v s i.0 i.1 low high))
  is_away v x (no n) = absurd (n (x.path.inside v (Memᴰ.head refl)))

  pub ground : N ≤ size → Ground N E s
  ground k = record {
    tree = t;
    small = k;
    far = λ v. away v (Dec.and (dec_le 1 v) (dec_le v N));
    is_far = λ v x. is_away v x (Dec.and (dec_le 1 v) (dec_le v N));
  }

-- ---- the start

module _ {N s : ℕ} {E : List ℕ} (g : Ground N E s) {up : List ℕ} (f : Starts N s up) (o : List ℕ) (long : length o ≡ size) where
  first : take 1 (set o 0 s) ≡ s ∷ []
  first = take-suc-set o 0 s (omega arith)

  it : {v : ℕ} → Memᴰ v (take 1 (set o 0 s)) → v ≡ s
  it m = Memᴰ.eq_of_singleton (rw first at m)

  source : Memᴰ s (take 1 (set o 0 s))
  source = rw first (Memᴰ.head refl)

  known : (v : ℕ) → (get_or (set up s s) v 0 ≡ 0 → ⊥) → Dec (v ≡ s) → Memᴰ v (take 1 (set o 0 s))
  known v n (yes e) = rw e source
  known v n (no d) = absurd (n (get_or-set_other up s v s 0 d ∙ f.none v))

  rise : (i j : ℕ) → i ≤ j → j < 1 → g.far (get_or (set o 0 s) i 0) ≤ g.far (get_or (set o 0 s) j 0)
  rise i j l k = let p : i ≡ j = omega arith in rw p (omega arith)

  pub start : Spread g (set o 0 s) (set up s s) 0 1
  start = record {
    long_o = length-set o 0 s ∙ long;
    long_up = length-set up s s ∙ f.long;
    order = omega arith;
    most = omega (arith, f.low, f.high);
    once = rw first (Memᴰ.not-nil, tt);
    source = source;
    climb = λ v m. rw (it m) (record { way = record { rest = []; path = path_one N E s f.low f.high; last = refl }; leads = get_or-set_same up s s 0 (omega (arith, f.high, f.long, g.small)) });
    known = λ v b c n. known v n (ℕ_discrete v s);
    rise = rise;
    near = λ j l k. near j l;
    closed = λ i l. absurd (none i l);
  }
    where
      near : (j : ℕ) → j < 1 → g.far (get_or (set o 0 s) j 0) ≤ suc (g.far (get_or (set o 0 s) 0 0))
      near j l = let q : j ≡ 0 = omega arith in rw q (omega arith)

      none : (i : ℕ) → i < 0 → ⊥
      none i l = omega arith

module _ {N s : ℕ} {E : List ℕ} (g : Ground N E s) {o up : List ℕ} {h e : ℕ} (a : Spread g o up h e) where
  long : length (take e o) ≡ e
  long = length-take-le e o (omega (arith, a.long_o, a.most, g.small))

  some : 1 ≤ e
  some = omega (arith, long, nonempty (take e o) a.source)
    where
      nonempty : (l : List ℕ) → Memᴰ s l → 1 ≤ length l
      nonempty [] m = absurd (Memᴰ.not-nil m)
      nonempty (x ∷ l) m = omega arith

  -- where one that is found stands
  stand : (v : ℕ) → Memᴰ v (take e o) → (i : ℕ) × (i < e) × (get_or o i 0 ≡ v)
  stand v m = let (l, k) = place_at v (take e o) m in let b : place v (take e o) < e = omega (arith, long) in (place v (take e o), b, sym (get_or-take e o (place v (take e o)) 0 b) ∙ k)

  -- ---- where not all are found, one waits

  reached : e ≤ h → {u v : ℕ} → Walk (arcs E) u v → Memᴰ u (take e o) → Memᴰ v (take e o)
  reached l here m = m
  reached l {u} (along {v = w} k p) m = let (i, b, q) = stand u m in reached l p (a.closed i (omega arith) w (rw q k))

  waits : e < N → h < e
  waits l = step (dec_lt h e)
    where
      step : Dec (h < e) → h < e
      step (yes y) = y
      step (no n) =
          let i = inside g a s a.source in
          let all : (v : ℕ) → Memᴰ v (up_to N) → Memᴰ v (take e o) =
          λ v m. let k = in_up_to N v m in reached (omega arith) (walks N E g.tree s i.0 i.1 v k.0 k.1) a.source in
          let z : ⊥ = omega (arith, up_to_length N, long, fits (up_to N) (take e o) (up_to_once N) all) in
          absurd z

  -- ---- a step

  module _ {t : List (List ℕ)} {d : List ℕ} (table : IsTable N E t d) (v : ℕ) (is : v ≡ get_or o h 0) (wait : h < e) (most : deg d v ≤ width) where
    in_v : (1 ≤ v) × (v ≤ N)
    in_v = rw is (inside g a (get_or o h 0) (at g a h wait))

    pub next_one : Next g (row t d v) o up v h e
    next_one = record {
      spread = a;
      waits = wait;
      is = is;
      arc = row_arc table g.small v in_v.0 in_v.1 most;
      all = arc_row table g.small v in_v.0 in_v.1 most;
    }

  -- ---- what is true when all are found

  module _ (full : e ≡ N) where
    every : (v : ℕ) → (1 ≤ v) × (v ≤ N) → Memᴰ v (take e o)
    every v i = step (dec_in v (take e o))
      where
        step : Dec (Memᴰ v (take e o)) → Memᴰ v (take e o)
        step (yes m) = m
        step (no n) =
            let f : length (v ∷ take e o) ≤ length (up_to N) =
            fits (v ∷ take e o) (up_to N) (n, a.once) (λ x m. let k = range x m in up_to_in N x k.0 k.1) in
            let z : ⊥ = omega (arith, up_to_length N, long) in
            absurd z
          where
            range : (x : ℕ) → Memᴰ x (v ∷ take e o) → (1 ≤ x) × (x ≤ N)
            range x m = ⊎_elim (λ q. rw q i) (inside g a x) (Memᴰ.cases_cons m)

    -- so the last found is a farthest one
    pub finish : Reached N E s up (get_or o (e - 1) 0)
    finish = record { long = a.long_up; climb = a.climb (get_or o (e - 1) 0) (at g a (e - 1) (omega (arith, some))); farthest = far }
      where
        far : (x : Way N E (get_or o (e - 1) 0) s) (v : ℕ) (y : Way N E v s) → length y.rest ≤ length x.rest
        far x v y =
            let (i, l, q) = stand v (every v (y.path.inside v (Memᴰ.head refl))) in
            omega (arith, g.is_far (get_or o (e - 1) 0) x, g.is_far v y, rw q at (a.rise i (e - 1) (omega arith) (omega arith)))

-- ---- what the code knows of the next vertex, whatever the tree is

-- the walk of every tree that has this table
abbrev pub Walks : ℕ → ℕ → List (List ℕ) → List ℕ → List ℕ → List ℕ → ℕ → ℕ → Type 0
Walks n s t d o up h e = (E : List ℕ) (g : Ground n E s) → IsTable n E t d → Spread g o up h e

module _ {n s h e : ℕ} {t : List (List ℕ)} {d o up up₀ : List ℕ} (k : Held n t d) (f : Starts n s up₀) (i : Walks n s t d o up h e) where
  own : Ground n k.edges s
  own = ground n k.edges s k.skeleton.tree f.low f.high k.skeleton.few

  mine : Spread own o up h e
  mine = i k.edges own k.table

  pub some_found : 1 ≤ e
  some_found = some own mine

  pub most_found : e ≤ n
  most_found = mine.most

  module _ (l : e < n) where
    pub one_waits : h < e
    one_waits = waits own mine l

    pub next_in : (1 ≤ get_or o h 0) × (get_or o h 0 ≤ n)
    next_in = inside own mine (get_or o h 0) (at own mine h one_waits)

    pub next_few : deg d (get_or o h 0) ≤ width
    next_few = few k (get_or o h 0) next_in.0 next_in.1

    pub in_some : Visit (row t d (get_or o h 0)) o up (get_or o h 0) e
    in_some = record { most = n; from = s; at = h; edges = k.edges; ground = own; next = next_one own mine k.table (get_or o h 0) refl one_waits next_few }
