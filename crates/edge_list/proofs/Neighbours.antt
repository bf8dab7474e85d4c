-- The table of neighbours, one arc at a time. Assumes nothing.
use mathlib.Core.Path.{◌≡◌, refl, sym, ap, ◌∙◌}
use mathlib.Core.List.{List, [], ◌∷◌, ◌++◌, append-nil, append_assoc}
use Prim.Native.Nat.{ℕ, ◌+◌, ◌-◌, ◌*◌, ◌≤◌, ◌<◌}
use native.Mathlib.Decide.{ℕ_discrete, dec_lt}
use native.Mathlib.Omega.{arith}
use lib.ListN.{length, get_or, set, replicate, length-set, length-replicate, get_or-replicate, length-append, get_or-append}
use lib.Seq.{get_or-set_same, get_or-set_other, get_or-append_seam}
use Rattle.limits.specs.document.Limits.{size}
use Rattle.limits.specs.Width.{width}
use Rattle.skeleton.specs.document.Skeleton.{Arc, arcs, neighbours, degree, Degrees, IsSkeleton}
use Rattle.edge_list.specs.document.Edges.{Edge, first_end, second_end, before}
use Rattle.edge_list.specs.Prefix.{arcs-more, arcs-all, neighbours_nil, neighbours-append, neighbours-hit, neighbours_miss, neighbours-count, hit, hit_same, degree_within, one_in, other_in}
use Rattle.edge_list.specs.Table.{Shaped, IsTable}
use Rattle.edge_list.specs.Parts.{Room, Added}

-- the table of the arcs A
pub record Holds (N : ℕ) (A : List Arc) (t : List (List ℕ)) (d : List ℕ) : Type 0 where
  pub shaped : Shaped t d
  pub degs : (v : ℕ) → 1 ≤ v → v ≤ N → get_or d (v - 1) 0 ≡ length (neighbours A v)
  pub row : (v j : ℕ) → 1 ≤ v → v ≤ N → j < length (neighbours A v) → get_or (get_or t (v - 1) []) j 0 ≡ get_or (neighbours A v) j 0
  pub none : (i : ℕ) → N ≤ i → i < size → get_or d i 0 ≡ 0
  pub rest : (i j : ℕ) → i < size → get_or d i 0 ≤ j → j < width → get_or (get_or t i []) j 0 ≡ 0

-- arrays that hold nothing but 0
pub holds_none : (N : ℕ) → N ≤ size → Holds N [] (replicate {A = List ℕ} size (replicate {A = ℕ} width 0)) (replicate {A = ℕ} size 0)
holds_none N s =
    record {
      shaped =
          record {
            rows = length-replicate {A = List ℕ} size (replicate {A = ℕ} width 0);
            wide = λ i h. ap length (line i h);
            degs = length-replicate {A = ℕ} size 0;
          };
      degs = λ v l h. zero (v - 1) (omega arith) ∙ sym (ap length (neighbours_nil v));
      row = λ v j l h k. absurd (let n : ⊥ = omega (arith, ap length (neighbours_nil v)) in n);
      none = λ i l h. zero i h;
      rest = λ i j h l k. ap (λ r. get_or r j 0) (line i h) ∙ get_or-replicate {A = ℕ} width j 0 0 k;
    }
  where
    line : (i : ℕ) → i < size → get_or (replicate {A = List ℕ} size (replicate {A = ℕ} width 0)) i [] ≡ replicate {A = ℕ} width 0
    line i h = get_or-replicate {A = List ℕ} size i (replicate {A = ℕ} width 0) [] h

    zero : (i : ℕ) → i < size → get_or (replicate {A = ℕ} size 0) i 0 ≡ 0
    zero i h = get_or-replicate {A = ℕ} size i 0 0 h

-- ---- one arc more

module _ (A : List Arc) (a b v : ℕ) where
  arc_hit : a ≡ v → neighbours (A ++ ((a, b) ∷ [])) v ≡ neighbours A v ++ (b ∷ [])
  arc_hit e = neighbours-append A ((a, b) ∷ []) v ∙ ap (λ l. neighbours A v ++ l) (neighbours-hit a b v [] e ∙ ap (λ l. b ∷ l) (neighbours_nil v))

  arc_miss : (a ≡ v → ⊥) → neighbours (A ++ ((a, b) ∷ [])) v ≡ neighbours A v
  arc_miss n = neighbours-append A ((a, b) ∷ []) v ∙ ap (λ l. neighbours A v ++ l) (neighbours_miss a b v [] n ∙ neighbours_nil v) ∙ append-nil _

shaped_more : (t : List (List ℕ)) (d : List ℕ) (i k b x : ℕ) → Shaped t d → i < size → Shaped (set t i (set (get_or t i []) k b)) (set d i x)
shaped_more t d i k b x s l =
    record {
      rows = length-set t i _ ∙ s.rows;
      wide = λ w h. step w h (ℕ_discrete w i);
      degs = length-set d i x ∙ s.degs;
    }
  where
    step : (w : ℕ) → w < size → Dec (w ≡ i) → length (get_or (set t i (set (get_or t i []) k b)) w []) ≡ width
    step w h (yes e) = rw (e, get_or-set_same t i (set (get_or t i []) k b) [] (rw s.rows l)) (length-set (get_or t i []) k b ∙ s.wide i l)
    step w h (no n) = rw (get_or-set_other t i w (set (get_or t i []) k b) [] n) (s.wide w h)

-- a number put behind the first k
put-behind : (l m : List ℕ) (b j : ℕ) → length m < length l → ((i : ℕ) → i < length m → get_or l i 0 ≡ get_or m i 0) → j < length m + 1
    → get_or (set l (length m) b) j 0 ≡ get_or (m ++ (b ∷ [])) j 0
put-behind l m b j h f k = step (dec_lt j (length m))
  where
    step : Dec (j < length m) → get_or (set l (length m) b) j 0 ≡ get_or (m ++ (b ∷ [])) j 0
    step (yes i) = get_or-set_other l (length m) j b 0 (λ e. let n : ⊥ = omega arith in n) ∙ f j i ∙ sym (get_or-append m (b ∷ []) 0 j i)
    step (no n) =
        let e : j ≡ length m = omega arith in
        rw e (get_or-set_same l (length m) b 0 h ∙ sym (get_or-append_seam m b [] 0))

-- the row of a with b behind its numbers, and how many they are then
abbrev grown : List (List ℕ) → List ℕ → ℕ → ℕ → List ℕ
grown t d a b = set (get_or t (a - 1) []) (get_or d (a - 1) 0) b

abbrev raised : List ℕ → ℕ → ℕ
raised d a = get_or d (a - 1) 0 + 1

module _
    {N : ℕ} {A : List Arc} {t : List (List ℕ)} {d : List ℕ} (a b : ℕ) (h : Holds N A t d) (small : N ≤ size) (low : 1 ≤ a) (high : a ≤ N)
    (room : length (neighbours A a) < width)
  where
    degs_more : (v : ℕ) → 1 ≤ v → v ≤ N → Dec (a ≡ v) → get_or (set d (a - 1) (raised d a)) (v - 1) 0 ≡ length (neighbours (A ++ ((a, b) ∷ [])) v)
    degs_more v l m (yes e) =
        rw (arc_hit A a b v e, ← e, get_or-set_same d (a - 1) (raised d a) 0 (rw h.shaped.degs (omega arith)), length-append) (omega (arith, h.degs a low high))
    degs_more v l m (no n) =
        rw (arc_miss A a b v n, get_or-set_other d (a - 1) (v - 1) (raised d a) 0 (λ e. n (omega arith))) (h.degs v l m)

    row_more :
        (v j : ℕ) → 1 ≤ v → v ≤ N → j < length (neighbours (A ++ ((a, b) ∷ [])) v) → Dec (a ≡ v)
        → get_or (get_or (set t (a - 1) (grown t d a b)) (v - 1) []) j 0 ≡ get_or (neighbours (A ++ ((a, b) ∷ [])) v) j 0
    row_more v j l m k (yes e) =
        let k' = rw (arc_hit A a b v e, length-append) at k in
        rw (arc_hit A a b v e, ← e, get_or-set_same t (a - 1) (grown t d a b) [] (rw h.shaped.rows (omega arith)), h.degs a low high)
        (put-behind (get_or t (a - 1) []) (neighbours A a) b j (rw (h.shaped.wide (a - 1) (omega arith)) room) (λ i o. h.row a i low high o) (rw (← e) at k'))
    row_more v j l m k (no n) =
        rw (arc_miss A a b v n, get_or-set_other t (a - 1) (v - 1) (grown t d a b) [] (λ e. n (omega arith)))
        (h.row v j l m (rw (arc_miss A a b v n) at k))

    none_more : (i : ℕ) → N ≤ i → i < size → get_or (set d (a - 1) (raised d a)) i 0 ≡ 0
    none_more i l m = get_or-set_other d (a - 1) i _ 0 (λ e. let n : ⊥ = omega arith in n) ∙ h.none i l m

    rest_more :
        (i j : ℕ) → i < size → get_or (set d (a - 1) (raised d a)) i 0 ≤ j → j < width → Dec (i ≡ a - 1)
        → get_or (get_or (set t (a - 1) (grown t d a b)) i []) j 0 ≡ 0
    rest_more i j l m o (yes e) =
        let k = rw (e, get_or-set_same d (a - 1) (raised d a) 0 (rw h.shaped.degs (omega arith))) at m in
        rw (e, get_or-set_same t (a - 1) (grown t d a b) [] (rw h.shaped.rows (omega arith)))
        (get_or-set_other (get_or t (a - 1) []) (get_or d (a - 1) 0) j b 0 (λ q. let n : ⊥ = omega arith in n) ∙ h.rest (a - 1) j (omega arith) (omega arith) o)
    rest_more i j l m o (no n) =
        rw (get_or-set_other t (a - 1) i (grown t d a b) [] n)
        (h.rest i j l (rw (get_or-set_other d (a - 1) i (raised d a) 0 n) at m) o)

    holds_more : {t' : List (List ℕ)} {d' : List ℕ} → Added a b t d t' d' → Holds N (A ++ ((a, b) ∷ [])) t' d'
    holds_more p =
        rw (p.rows, p.degs)
        (record {
          shaped = shaped_more t d (a - 1) (get_or d (a - 1) 0) b (raised d a) h.shaped (omega arith);
          degs = λ v l m. degs_more v l m (ℕ_discrete a v);
          row = λ v j l m k. row_more v j l m k (ℕ_discrete a v);
          none = none_more;
          rest = λ i j l m o. rest_more i j l m o (ℕ_discrete i (a - 1));
        })

-- ---- one edge more, of a skeleton

module _
    {N : ℕ} {E : List ℕ} {p : ℕ} (a b : ℕ) (s : IsSkeleton size width N E) (h : Edge E p) (i : (a ≡ first_end E p) × (a < 256)) (j : (b ≡ second_end E p) × (b < 256))
  where
    a_in : (1 ≤ a) × (a ≤ N)
    a_in = rw i.0 (s.tree.inside (first_end E p) (one_in E p h))

    b_in : (1 ≤ b) × (b ≤ N)
    b_in = rw j.0 (s.tree.inside (second_end E p) (other_in E p h))

    few : (v : ℕ) → (1 ≤ v) × (v ≤ N) → degree (before E p) v + hit a v + hit b v ≤ width
    unfolding Degrees
    few v k = let d = s.degrees v k.0 k.1 in let w = degree_within E p v h in rw (i.0, j.0) (omega arith)

    a_few : length (neighbours (arcs (before E p)) a) < width
    unfolding degree
    a_few = let f = few a a_in in let e = hit_same a a refl in omega arith

    b_few : length (neighbours (arcs (before E p) ++ ((a, b) ∷ [])) b) < width
    unfolding degree
    b_few =
        let f = few b b_in in
        let e = hit_same b b refl in
        rw (neighbours-append, length-append, neighbours-count, neighbours_nil b) (omega arith)

    module _ {t : List (List ℕ)} {d : List ℕ} where
      pub room-first : Holds N (arcs (before E p)) t d → Room d a b
      room-first k =
          let n = s.few in
          record { low = a_in.0; high = omega (arith, a_in.1); few = rw (k.degs a a_in.0 a_in.1) a_few; byte = j.1 }

      pub room-second : Holds N (arcs (before E p) ++ ((a, b) ∷ [])) t d → Room d b a
      room-second k =
          let n = s.few in
          record { low = b_in.0; high = omega (arith, b_in.1); few = rw (k.degs b b_in.0 b_in.1) b_few; byte = i.1 }

      pub after_first : {t' : List (List ℕ)} {d' : List ℕ} → Holds N (arcs (before E p)) t d → Added a b t d t' d' → Holds N (arcs (before E p) ++ ((a, b) ∷ [])) t' d'
      after_first k q = holds_more a b k s.few a_in.0 a_in.1 a_few q

      pub after-second :
          {t' : List (List ℕ)} {d' : List ℕ} → Holds N (arcs (before E p) ++ ((a, b) ∷ [])) t d → Added b a t d t' d' → Holds N (arcs (before E (p + 1))) t' d'
      after-second k q =
          rw (arcs-more E p h, ← i.0, ← j.0, ← append_assoc (arcs (before E p)) ((a, b) ∷ []) ((b, a) ∷ [])) (holds_more b a k s.few b_in.0 b_in.1 b_few q)

-- behind the last edge
pub is_table : {N : ℕ} {E : List ℕ} {t : List (List ℕ)} {d : List ℕ} (p : ℕ) → Holds N (arcs (before E p)) t d → length E < 2 * p → IsTable N E t d
unfolding degree
is_table {E = E} p h l =
    let k = rw (arcs-all E p l) at h in
    record { shaped = k.shaped; degs = k.degs; row = k.row; none = k.none; rest = k.rest }
