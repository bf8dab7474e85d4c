-- Lower neighbours, one edge at a time: from the front of a list, and behind the edges before p. Assumes nothing.
use Rattle.std.specs.Prelude.{◌≡◌, refl, ℕ, zero, suc, ◌+◌, ◌-◌, ◌*◌, ◌/◌, ◌≤◌, ◌<◌, length}
use Rattle.std.proofs.Common.{ap₂, sym, ◌∙◌, ⊎_elim, arith, length-append}
use Rattle.std.proofs.Math.Logic.{ite}
use mathlib.Core.List.Memᴰ
use mathlib.Core.List.{List, [], ◌∷◌, ◌++◌, filter, filter-append, Memᴰ}
use Rattle.std.proofs.Math.Decide.{ℕ_discrete, dec_lt}
use Rattle.skeleton.specs.document.Skeleton.{Arc, arcs, neighbours}
use Rattle.edge_list.specs.document.Edges.{Edge, first_end, second_end, before}
use Rattle.edge_list.specs.Prefix.{arcs-more, arcs-all, arcs-none, neighbours-hit, neighbours_miss, neighbours_nil, neighbours-append}
use Rattle.adjacency.specs.document.Adjacency.{lower}

-- those of l that are below v
abbrev under : ℕ → List ℕ → List ℕ
under v l = filter {p = λ w. w < v} (λ w. dec_lt w v) l

under-hit : (v w : ℕ) (l : List ℕ) → w < v → under v (w ∷ l) ≡ w ∷ under v l
under-hit v w l h = step (dec_lt w v)
  where
    step : (d : Dec (w < v)) → ite {C = List ℕ} d (w ∷ under v l) (under v l) ≡ w ∷ under v l
    step (yes k) = refl
    step (no n) = absurd (n h)

under_miss : (v w : ℕ) (l : List ℕ) → v ≤ w → under v (w ∷ l) ≡ under v l
under_miss v w l h = step (dec_lt w v)
  where
    step : (d : Dec (w < v)) → ite {C = List ℕ} d (w ∷ under v l) (under v l) ≡ under v l
    step (yes k) = absurd (let n : ⊥ = omega arith in n)
    step (no n) = refl

pub lower_nil : (v : ℕ) → lower [] v ≡ []
unfolding lower arcs
lower_nil v = rw (neighbours_nil v)

pub lower_odd : (a v : ℕ) → lower (a ∷ []) v ≡ []
unfolding lower arcs
lower_odd a v = lower_nil v

-- ---- an edge in front

-- an edge from a lower vertex to v
pub lower-one : (a v : ℕ) (E : List ℕ) → a < v → lower (a ∷ v ∷ E) v ≡ a ∷ lower E v
unfolding lower arcs
lower-one a v E h =
    rw (neighbours_miss a v v ((v, a) ∷ arcs E) (λ e. let n : ⊥ = omega arith in n), neighbours-hit v a v (arcs E) refl) (under-hit v a (neighbours (arcs E) v) h)

-- an edge from v to a lower vertex
pub lower-other : (v b : ℕ) (E : List ℕ) → b < v → lower (v ∷ b ∷ E) v ≡ b ∷ lower E v
unfolding lower arcs
lower-other v b E h =
    rw (neighbours-hit v b v ((b, v) ∷ arcs E) refl, neighbours_miss b v v (arcs E) (λ e. let n : ⊥ = omega arith in n)) (under-hit v b (neighbours (arcs E) v) h)

-- any other edge
pub lower_pass : (a b v : ℕ) (E : List ℕ) → (a ≡ v → v ≤ b) → (b ≡ v → v ≤ a) → lower (a ∷ b ∷ E) v ≡ lower E v
unfolding lower arcs
lower_pass a b v E p q = first (ℕ_discrete a v)
  where
    second : Dec (b ≡ v) → under v (neighbours ((b, a) ∷ arcs E) v) ≡ under v (neighbours (arcs E) v)
    second (yes e) = rw (neighbours-hit b a v (arcs E) e) (under_miss v a (neighbours (arcs E) v) (q e))
    second (no n) = rw (neighbours_miss b a v (arcs E) n)

    first : Dec (a ≡ v) → under v (neighbours ((a, b) ∷ (b, a) ∷ arcs E) v) ≡ under v (neighbours (arcs E) v)
    first (yes e) = rw (neighbours-hit a b v ((b, a) ∷ arcs E) e) (under_miss v b (neighbours ((b, a) ∷ arcs E) v) (p e) ∙ second (ℕ_discrete b v))
    first (no n) = rw (neighbours_miss a b v ((b, a) ∷ arcs E) n) (second (ℕ_discrete b v))

-- a lower neighbour is a neighbour
neighbour_arc : (A : List Arc) (v w : ℕ) → Memᴰ w (neighbours A v) → Memᴰ (v, w) A
neighbour_arc [] v w m = absurd (Memᴰ.not-nil (rw (neighbours_nil v) at m))
neighbour_arc (x ∷ A) v w m = step (ℕ_discrete x.0 v) (neighbour_arc A v w)
  where
    step : Dec (x.0 ≡ v) → (Memᴰ w (neighbours A v) → Memᴰ (v, w) A) → Memᴰ (v, w) (x ∷ A)
    step (yes e) rest =
        ⊎_elim (λ z. Memᴰ.head (ap₂ (λ a b. (a, b)) (sym e) z)) (λ t. Memᴰ.tail (rest t)) (Memᴰ.cases_cons (rw (neighbours-hit x.0 x.1 v A e) at m))
    step (no n) rest = Memᴰ.tail (rest (rw (neighbours_miss x.0 x.1 v A n) at m))

under_in : (v w : ℕ) (l : List ℕ) → Memᴰ w (under v l) → Memᴰ w l
under_in v w [] m = m
under_in v w (x ∷ l) m = step (dec_lt x v) (under_in v w l)
  where
    step : Dec (x < v) → (Memᴰ w (under v l) → Memᴰ w l) → Memᴰ w (x ∷ l)
    step (yes h) rest = ⊎_elim (λ z. Memᴰ.head z) (λ t. Memᴰ.tail (rest t)) (Memᴰ.cases_cons (rw (under-hit v x l h) at m))
    step (no h) rest = Memᴰ.tail (rest (rw (under_miss v x l (omega arith)) at m))

pub lower_arc : (E : List ℕ) (v w : ℕ) → Memᴰ w (lower E v) → Memᴰ (v, w) (arcs E)
unfolding lower
lower_arc E v w m = neighbour_arc (arcs E) v w (under_in v w (neighbours (arcs E) v) m)

-- ---- the edges before p

pub lower-none : (E : List ℕ) (v : ℕ) → lower (before E 1) v ≡ []
unfolding lower
lower-none E v = rw (arcs-none E, neighbours_nil v)

pub lower-more : (E : List ℕ) (p v : ℕ) → Edge E p → lower (before E (p + 1)) v ≡ lower (before E p) v ++ lower (first_end E p ∷ second_end E p ∷ []) v
unfolding lower arcs
lower-more E p v h = rw (arcs-more E p h, neighbours-append) (filter-append (λ w. dec_lt w v) (neighbours (arcs (before E p)) v) _)

pub lower-all : (E : List ℕ) (p v : ℕ) → length E < 2 * p → lower (before E p) v ≡ lower E v
unfolding lower
lower-all E p v h = rw (arcs-all E p h)

lower-rises : (E : List ℕ) (p v j : ℕ) → 1 ≤ p → p + j ≤ length E / 2 + 1 → length (lower (before E p) v) ≤ length (lower (before E (p + j)) v)
lower-rises E p v zero l h = let e : p + 0 ≡ p = omega arith in rw e (omega arith)
lower-rises E p v (suc j) l h =
    let e : p + suc j ≡ p + j + 1 = omega arith in
    let r = lower-rises E p v j l (omega arith) in
    let k : Edge E (p + j) = omega arith in
    rw (e, lower-more E (p + j) v k, length-append) (omega arith)

-- the edges before p count at most what all do
pub lower_within : (E : List ℕ) (p v : ℕ) → 1 ≤ p → p ≤ length E / 2 + 1 → length (lower (before E p) v) ≤ length (lower E v)
lower_within E p v l h =
    let e : p + (length E / 2 + 1 - p) ≡ length E / 2 + 1 = omega arith in
    rw (e, lower-all E (length E / 2 + 1) v (omega arith)) at (lower-rises E p v (length E / 2 + 1 - p) l (omega arith))
