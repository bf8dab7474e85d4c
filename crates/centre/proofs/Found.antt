-- A vertex more is found, and a vertex is done with.
--
-- In order: notes that lead along a path; what is true of the vertices found; one that is found from the next to look at; the next done
-- with. Assumes nothing.
use mathlib.Core.Path.{◌≡◌, refl, sym, ◌∙◌}
use mathlib.Core.Logic.{◌⊎◌, inl, inr, ⊎_elim}
use mathlib.Core.List.Memᴰ
use mathlib.Core.List.{List, [], ◌∷◌, ◌++◌, Memᴰ}
use Prim.Native.Nat.{ℕ, suc, ◌≤◌, ◌<◌}
use native.Mathlib.Decide.{ℕ_discrete, dec_lt}
use native.Mathlib.Omega.{arith}
use lib.ListN.{length, get_or, take, set, length-append, length-set}
use lib.Seq.{get_or-set_same, get_or-set_other, get_or-take, take-suc-set, length-take-le}
use Rattle.laws.specs.document.Once.{Once}
use Rattle.laws.specs.Once.{fits, up_to, up_to_length, up_to_in}
use Rattle.laws.specs.Places.{at_in, once_join}
use Rattle.skeleton.specs.document.Skeleton.{arcs}
use Rattle.skeleton.specs.Walks.{turn, arc_end}
use Rattle.longest_path.specs.Ways.{Way}
use Rattle.centre.specs.Walking.{Leads, Climb, Ground, Spread}

-- ---- notes that lead along a path

-- a vertex of it leads on, so it is found
leads_on : (up p : List ℕ) → Leads up p → ((w : ℕ) → Memᴰ w p → 1 ≤ w) → (w : ℕ) → Memᴰ w p → get_or up w 0 ≡ 0 → ⊥
leads_on up [] l n w m e = Memᴰ.not-nil m
leads_on up (v ∷ []) l n w m e = let i : w ≡ v = Memᴰ.eq_of_singleton m in let z : v ≡ 0 = sym l ∙ rw i at e in omega (arith, n v (Memᴰ.head refl))
leads_on up (v ∷ x ∷ p) l n w m e = step (Memᴰ.cases_cons m) (leads_on up (x ∷ p) l.1 (λ y k. n y (Memᴰ.tail k)) w)
  where
    step : (w ≡ v) ⊎ Memᴰ w (x ∷ p) → (Memᴰ w (x ∷ p) → get_or up w 0 ≡ 0 → ⊥) → ⊥
    step (inl i) f = let z : x ≡ 0 = sym l.0 ∙ rw i at e in omega (arith, n x (Memᴰ.tail (Memᴰ.head refl)))
    step (inr k) f = f k e

-- a note at a vertex off it changes nothing
leads_still : (up : List ℕ) (w v : ℕ) (p : List ℕ) → (Memᴰ w p → ⊥) → Leads up p → Leads (set up w v) p
leads_still up w v [] n l = tt
leads_still up w v (x ∷ []) n l = get_or-set_other up w x v 0 (λ e. n (Memᴰ.head (sym e))) ∙ l
leads_still up w v (x ∷ y ∷ p) n l = (get_or-set_other up w x v 0 (λ e. n (Memᴰ.head (sym e))) ∙ l.0, leads_still up w v (y ∷ p) (λ m. n (Memᴰ.tail m)) l.1)

-- ---- what is true of the vertices found

module _ {N s : ℕ} {E : List ℕ} (g : Ground N E s) {o up : List ℕ} {h e : ℕ} (a : Spread g o up h e) where
  pub inside : (v : ℕ) → Memᴰ v (take e o) → (1 ≤ v) × (v ≤ N)
  inside v m = (a.climb v m).way.path.inside v (Memᴰ.head refl)

  pub at : (i : ℕ) → i < e → Memᴰ (get_or o i 0) (take e o)
  at i l = rw (get_or-take e o i 0 l) at (at_in (take e o) i 0 (omega (arith, length-take-le e o (omega (arith, a.long_o, a.most, g.small)))))

  -- what is not found is on the way of none that is
  off : (w : ℕ) → get_or up w 0 ≡ 0 → (v : ℕ) (m : Memᴰ v (take e o)) → Memᴰ w (v ∷ (a.climb v m).way.rest) → ⊥
  off w z v m k = let c = a.climb v m in leads_on up (v ∷ c.way.rest) c.leads (λ x i. (c.way.path.inside x i).0) w k z

  absent : (w : ℕ) → get_or up w 0 ≡ 0 → Memᴰ w (take e o) → ⊥
  absent w z m = off w z w m (Memᴰ.head refl)

  -- ---- one that is found from the next to look at

  module _ (w v : ℕ) (waits : h < e) (is : v ≡ get_or o h 0) (arc : Memᴰ (v, w) (arcs E)) (new : get_or up w 0 ≡ 0) where
    in_w : (1 ≤ w) × (w ≤ N)
    in_w = g.tree.inside w (arc_end E arc)

    in_v : Memᴰ v (take e o)
    in_v = rw is (at h waits)

    pushed : Once (take e o ++ (w ∷ []))
    pushed = once_join (take e o) (w ∷ []) a.once (Memᴰ.not-nil, tt) (λ x m k. absent w new (Memᴰ.cast (sym (Memᴰ.eq_of_singleton k)) m))

    pub room : e < N
    room =
        let l : length (take e o) ≡ e = length-take-le e o (omega (arith, a.long_o, a.most, g.small)) in
        let f : length (take e o ++ (w ∷ [])) ≤ length (up_to N) =
        fits (take e o ++ (w ∷ [])) (up_to N) pushed (λ x m. ⊎_elim (λ k. let i = inside x k in up_to_in N x i.0 i.1) (λ (k : Memᴰ x (w ∷ [])). rw (Memᴰ.eq_of_singleton k) (up_to_in N w in_w.0 in_w.1)) (Memᴰ.append_cases (take e o) m)) in
        omega (arith, length-append (take e o) (w ∷ []), up_to_length N)

    list : take (suc e) (set o e w) ≡ take e o ++ (w ∷ [])
    list = take-suc-set o e w (omega (arith, a.long_o, room, g.small))

    pub old : {x : ℕ} → Memᴰ x (take e o) → Memᴰ x (take (suc e) (set o e w))
    old m = rw list (Memᴰ.append_left (w ∷ []) m)

    pub newest : Memᴰ w (take (suc e) (set o e w))
    newest = rw list (Memᴰ.append_right (take e o) (Memᴰ.head refl))

    place_old : (i : ℕ) → i < e → get_or (set o e w) i 0 ≡ get_or o i 0
    place_old i l = get_or-set_other o e i w 0 (λ z. omega arith)

    place_new : get_or (set o e w) e 0 ≡ w
    place_new = get_or-set_same o e w 0 (omega (arith, a.long_o, room, g.small))

    w_way : Way N E w s
    w_way =
        let c = a.climb v in_v in
        record {
          rest = v ∷ c.way.rest;
          path = record {
            inside = λ x m. ⊎_elim (λ i. rw i in_w) (c.way.path.inside x) (Memᴰ.cases_cons m);
            joined = (turn E arc, c.way.path.joined);
            once = (off w new v in_v, c.way.path.once);
          };
          last = c.way.last;
        }

    still : (x : ℕ) (m : Memᴰ x (take e o)) → Leads (set up w v) (x ∷ (a.climb x m).way.rest)
    still x m = let c = a.climb x m in leads_still up w v (x ∷ c.way.rest) (off w new x m) c.leads

    climbs : (x : ℕ) → Memᴰ x (take e o) ⊎ Memᴰ x (w ∷ []) → Climb N E (set up w v) x s
    unfolding w_way
    climbs x (inl m) = record { way = (a.climb x m).way; leads = still x m }
    climbs x (inr k) = rw (Memᴰ.eq_of_singleton k) (record { way = w_way; leads = (get_or-set_same up w v 0 (omega (arith, a.long_up, in_w, g.small)), still v in_v) })

    far_w : g.far w ≡ suc (g.far (get_or o h 0))
    unfolding w_way
    far_w = rw (← is) (omega (arith, g.is_far w w_way, g.is_far v (a.climb v in_v).way))

    noted : (x : ℕ) → 1 ≤ x → x ≤ N → (get_or (set up w v) x 0 ≡ 0 → ⊥) → Dec (x ≡ w) → Memᴰ x (take (suc e) (set o e w))
    noted x b c n (yes i) = rw i newest
    noted x b c n (no i) = old (a.known x b c (λ z. n (get_or-set_other up w x v 0 i ∙ z)))

    rises : (i j : ℕ) → i ≤ j → j < suc e → Dec (i < e) → Dec (j < e) → g.far (get_or (set o e w) i 0) ≤ g.far (get_or (set o e w) j 0)
    rises i j l k d (yes y) = rw (place_old i (omega arith), place_old j y) (a.rise i j l y)
    rises i j l k (yes x) (no y) =
        let q : j ≡ e = omega arith in
        rw (q, place_old i x, place_new, far_w) (a.near i x waits)
    rises i j l k (no x) (no y) =
        let p : i ≡ e = omega arith in
        let q : j ≡ e = omega arith in
        rw (p, q) (omega arith)

    nears : (j : ℕ) → j < suc e → Dec (j < e) → g.far (get_or (set o e w) j 0) ≤ suc (g.far (get_or (set o e w) h 0))
    nears j l (yes y) = rw (place_old j y, place_old h waits) (a.near j y waits)
    nears j l (no y) = let q : j ≡ e = omega arith in rw (q, place_new, place_old h waits, far_w) (omega arith)

    pub found : Spread g (set o e w) (set up w v) h (suc e)
    found = record {
      long_o = length-set o e w ∙ a.long_o;
      long_up = length-set up w v ∙ a.long_up;
      order = omega (arith, waits);
      most = room;
      once = rw list pushed;
      source = old a.source;
      climb = λ x m. climbs x (Memᴰ.append_cases (take e o) (rw list at m));
      known = λ x b c n. noted x b c n (ℕ_discrete x w);
      rise = λ i j l k. rises i j l k (dec_lt i e) (dec_lt j e);
      near = λ j l k. nears j l (dec_lt j e);
      closed = λ i l x m. old (a.closed i l x (rw (place_old i (omega (arith, waits))) at m));
    }

  -- ---- the next done with

  pub done : h < e → ((w : ℕ) → Memᴰ (get_or o h 0, w) (arcs E) → Memᴰ w (take e o)) → Spread g o up (suc h) e
  done waits all = record {
    long_o = a.long_o;
    long_up = a.long_up;
    order = waits;
    most = a.most;
    once = a.once;
    source = a.source;
    climb = a.climb;
    known = a.known;
    rise = a.rise;
    near = λ j l k. omega (arith, a.near j l waits, a.rise h (suc h) (omega arith) k);
    closed = λ i l. closed i (ℕ_discrete i h) l;
  }
    where
      closed : (i : ℕ) → Dec (i ≡ h) → i < suc h → (w : ℕ) → Memᴰ (get_or o i 0, w) (arcs E) → Memᴰ w (take e o)
      closed i (yes q) l w m = all w (rw q at m)
      closed i (no n) l w m = a.closed i (omega arith) w m
