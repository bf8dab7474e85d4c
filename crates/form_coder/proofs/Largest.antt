-- The search for the N-tuple code.
--
-- In order: the greatest degree; the largest code among the vertices passed; what the search holds after each; the N-tuple code.
-- Assumes nothing.
use mathlib.Core.Path.{◌≡◌, refl, sym, ap, ap₂, ◌∙◌, subst}
use mathlib.Core.Logic.{◌⊎◌, inl, inr, ⊎_elim}
use mathlib.Core.Bool.{Bool}
use mathlib.Core.List.{List, [], ◌∷◌, ◌++◌}
use Prim.Native.Nat.{ℕ, zero, suc, ◌+◌, ◌-◌, ◌≤◌, ◌<◌}
use Rattle.std.specs.Prelude.{max}
use Rattle.std.specs.List.{fold, reduce}
use Rattle.std.specs.Option.{unwrap_or}
use native.Mathlib.Decide.{dec_lt, ℕ_discrete}
use native.Mathlib.Omega.{arith}
use lib.ListN.{length, get_or, take, drop, replicate, length-replicate, replicate-append-replicate}
use lib.Seq.{length-take-le, get_or-take, take_at}
use Rattle.laws.specs.document.Order.{◌≽◌}
use Rattle.laws.specs.Sorting.{refl≽, trans≽, antisym≽, below≽}
use Rattle.laws.specs.document.Laid.{laid_over}
use Rattle.laws.specs.Laid.{laid_length}
use Rattle.laws.specs.Laying.{laid-front}
use Rattle.refusal.specs.document.Table.{Writes}
use Rattle.limits.specs.document.Limits as limits
use Rattle.skeleton.specs.document.Skeleton.{IsTree, degree}
use Rattle.edge_list.specs.Table.{IsTable}
use Rattle.form.specs.document.Form.{NTuple}
use Rattle.form_coder.specs.document.Pairs.{of_degree, OverWidest}
use Rattle.form_coder.specs.Raised.{Raised, kept, raised, MaximumDegree}
use Rattle.form_coder.proofs.Written.{Codes, copied, front}
use Rattle.form_coder.proofs.Looked.{Summed}

-- ---- the greatest degree

-- the greatest of a number and those behind it: none is above it, and it is one of them
above-all : (a : ℕ) (l : List ℕ) → (a ≤ fold max a l) × ((i : ℕ) → i < length l → get_or l i 0 ≤ fold max a l)
above-all a [] = (omega arith, λ i h. absurd (omega arith))
above-all a (x ∷ l) = let (f, g) = above-all (max a x) l in (omega arith, at f g)
  where
    at : max a x ≤ fold max (max a x) l → ((i : ℕ) → i < length l → get_or l i 0 ≤ fold max (max a x) l)
        → (i : ℕ) → i < length (x ∷ l) → get_or (x ∷ l) i 0 ≤ fold max (max a x) l
    at f g zero h = omega arith
    at f g (suc i) h = g i (omega arith)

one_of : (a : ℕ) (l : List ℕ) → (i : ℕ) × (i < length (a ∷ l)) × (get_or (a ∷ l) i 0 ≡ fold max a l)
one_of a [] = (0, omega arith, refl)
one_of a (x ∷ l) = let (i, h, e) = one_of (max a x) l in step i h e (dec_lt a x)
  where
    step : (i : ℕ) → i < length (max a x ∷ l) → get_or (max a x ∷ l) i 0 ≡ fold max (max a x) l → Dec (a < x)
        → (j : ℕ) × (j < length (a ∷ x ∷ l)) × (get_or (a ∷ x ∷ l) j 0 ≡ fold max (max a x) l)
    step zero h e (yes k) = (1, omega arith, omega arith)
    step zero h e (no k) = (0, omega arith, omega arith)
    step (suc i) h e k = (suc (suc i), omega arith, e)

greatest_of : (l : List ℕ) → MaximumDegree l (length l) (unwrap_or (reduce max l) 0)
greatest_of [] = record { above = λ i h. absurd (omega arith); one = λ h. absurd (omega arith) }
greatest_of (x ∷ l) = record { above = above; one = λ h. one_of x l }
  where
    above : (i : ℕ) → i < length (x ∷ l) → get_or (x ∷ l) i 0 ≤ fold max x l
    above zero h = (above-all x l).0
    above (suc i) h = (above-all x l).1 i (omega arith)

-- that of the first n, or 0 where n is 0
pub greatest : (D : List ℕ) (n : ℕ) → n ≤ length D → MaximumDegree D n (unwrap_or (reduce max (take n D)) 0)
greatest D n h =
    let l : length (take n D) ≡ n = length-take-le n D h in
    let m = greatest_of (take n D) in
    record {
      above = λ i k. let e = get_or-take n D i 0 k in omega (arith, m.above i (omega arith));
      one = λ k. let (i, o, e) = m.one (omega arith) in (i, omega arith, sym (get_or-take n D i 0 (omega arith)) ∙ e);
    }

-- ---- the largest code among the vertices passed, where `at v` is the code at v

-- c is the code at a vertex of degree d
abbrev pub Candidate : ℕ → List ℕ → (ℕ → List ℕ) → ℕ → List ℕ → Type 0
Candidate N E at d c = (r : ℕ) × ((1 ≤ r) × (r ≤ N)) × (degree E r ≡ d) × (c ≡ at r)

-- c stands at or after the codes at the vertices of degree d up to v; it is such a code, or nothing but zeros
pub record Top (N : ℕ) (E : List ℕ) (at : ℕ → List ℕ) (d v : ℕ) (c : List ℕ) : Type 0 where
  pub above : (u : ℕ) → 1 ≤ u → u ≤ v → degree E u ≡ d → c ≽ at u
  pub either : Candidate N E at d c ⊎ (c ≡ replicate N 0)

module _ {N : ℕ} {E : List ℕ} {at : ℕ → List ℕ} {d v : ℕ} {a : List ℕ} (t : Top N E at d v a) where
  also : (c : List ℕ) → ((u : ℕ) → 1 ≤ u → u ≤ v → degree E u ≡ d → c ≽ at u) → (degree E (v + 1) ≡ d → c ≽ at (v + 1))
      → (u : ℕ) → 1 ≤ u → u ≤ v + 1 → degree E u ≡ d → c ≽ at u
  also c f g u h k e = elim (ℕ_discrete u (v + 1)) [ yes q ↦ rw q (g (rw q at e)) | no n ↦ f u h (omega arith) e ]

  pub top_past : (degree E (v + 1) ≡ d → ⊥) → Top N E at d (v + 1) a
  top_past n = record { above = also a t.above (λ e. absurd (n e)); either = t.either }

  pub top_stays : a ≽ at (v + 1) → Top N E at d (v + 1) a
  top_stays g = record { above = also a t.above (λ e. g); either = t.either }

  pub top-rises : v < N → degree E (v + 1) ≡ d → at (v + 1) ≽ a → Top N E at d (v + 1) (at (v + 1))
  top-rises k e g =
      let c : List ℕ = at (v + 1) in
      record {
        above = also c (λ u h l f. trans≽ c a (at u) g (t.above u h l f)) (λ f. refl≽ c);
        either = inl (v + 1, omega arith, e, refl);
      }

-- every list stands at or after as many zeros
above-zeros : (c : List ℕ) → c ≽ replicate (length c) 0
above-zeros [] = tt
above-zeros (x ∷ c) = elim (dec_lt 0 x) [ yes l ↦ inl l | no n ↦ inr (omega arith, above-zeros c) ]

-- once a vertex of degree d is passed, c is a code
top-code : {N : ℕ} {E : List ℕ} {at : ℕ → List ℕ} {d v : ℕ} {c : List ℕ} → Codes N at → Top N E at d v c → (w : ℕ) → 1 ≤ w → w ≤ N → w ≤ v → degree E w ≡ d → Candidate N E at d c
top-code {N} {E} {at} {d} {v} {c} a p w h k l e = ⊎_elim (λ x. x) (λ z. (w, (h, k), e, zeros z)) p.either
  where
    zeros : c ≡ replicate N 0 → c ≡ at w
    zeros z = antisym≽ c (at w) (p.above w h l e) (rw z (subst (λ n. at w ≽ replicate n 0) (a.long w h k) (above-zeros (at w))))

-- ---- what the search holds

take_zeros : (n m : ℕ) → n ≤ m → take {A = ℕ} n (replicate m 0) ≡ replicate n 0
take_zeros n m h =
    let e : n + (m - n) ≡ m = omega arith in
    ap (λ (k : ℕ). take {A = ℕ} n (replicate k 0)) (sym e)
    ∙ ap (take {A = ℕ} n) (sym (replicate-append-replicate n (m - n) 0))
    ∙ take_at {A = ℕ} (replicate n 0) (replicate (m - n) 0) n (length-replicate {A = ℕ} n 0)

-- before vertex v + 1: the largest code so far begins `best`, and `other` and `o` have room for the next and its vertices
pub record Best (N : ℕ) (E : List ℕ) (at : ℕ → List ℕ) (d : ℕ) (best other o : List ℕ) (v : ℕ) : Type 0 where
  pub within : v ≤ N
  pub long : length best ≡ limits.size
  pub room : length other ≡ limits.size
  pub order : length o ≡ limits.size
  pub top : Top N E at d v (take N best)

pub best_first : {N : ℕ} {E : List ℕ} {at : ℕ → List ℕ} {d : ℕ} → N ≤ limits.size → Best N E at d (replicate limits.size 0) (replicate limits.size 0) (replicate limits.size 0) 0
best_first {N} h =
    record {
      within = omega arith;
      long = refl;
      room = refl;
      order = refl;
      top = record { above = λ u i j e. let z : ⊥ = omega arith in absurd z; either = inr (take_zeros N limits.size h) };
    }

module _ {N : ℕ} {E : List ℕ} {at : ℕ → List ℕ} {d : ℕ} {best other o : List ℕ} {v : ℕ} (a : Codes N at) (small : N ≤ limits.size) (b : Best N E at d best other o v) (l : v < N) where
  pub best_past : (degree E (v + 1) ≡ d → ⊥) → Best N E at d best other o (v + 1)
  best_past n = record { within = omega arith; long = b.long; room = b.room; order = b.order; top = top_past b.top n }

  -- the next code is written over `other`
  module _ {coded : List ℕ} (e : coded ≡ laid_over (at (v + 1)) other) where
    here : length (at (v + 1)) ≡ N
    here = a.long (v + 1) (omega arith) (omega arith)

    pub coded_long : length coded ≡ limits.size
    coded_long = rw e (laid_length (at (v + 1)) other (omega (arith, b.room, here)) ∙ b.room)

    coded-front : take N coded ≡ at (v + 1)
    coded-front = front a (omega arith) (omega arith) other e

    pub best_next : {new p : List ℕ} {r : Bool} → degree E (v + 1) ≡ d → Raised N best coded new r → length p ≡ limits.size → Best N E at d new coded p (v + 1)
    best_next is (kept g f) k =
        record { within = omega arith; long = rw f b.long; room = coded_long; order = k; top = rw f (top_stays b.top (rw coded-front at g)) }
    best_next {new} is (raised g f) k =
        let c : List ℕ = at (v + 1) in
        let w : new ≡ laid_over c best = rw coded-front at f in
        record {
          within = omega arith;
          long = rw w (laid_length c best (omega (arith, b.long, here)) ∙ b.long);
          room = coded_long;
          order = k;
          top = rw (laid-front c best new N w here) (top-rises b.top l is (below≽ (take N best) c (rw coded-front at g)));
        }

-- ---- the N-tuple code

-- the degree of vertex v + 1, by the table
pub degree-at : {N : ℕ} {E : List ℕ} {T : List (List ℕ)} {D : List ℕ} {v : ℕ} → IsTable N E T D → v < N → get_or D v 0 ≡ degree E (v + 1)
degree-at {v = v} s h = let q : v + 1 - 1 ≡ v = omega arith in rw q at (s.degs (v + 1) (omega arith) (omega arith))

module _ {N : ℕ} {E : List ℕ} {at : ℕ → List ℕ} {T : List (List ℕ)} {D : List ℕ} {d : ℕ} {best other o : List ℕ} {v : ℕ} (a : Codes N at) (t : IsTree N E) (small : N ≤ limits.size) (s : IsTable N E T D) (w : MaximumDegree D N d) (b : Best N E at d best other o v) (l : N ≤ v) where
  below : (u : ℕ) → 1 ≤ u → u ≤ N → degree E u ≤ d
  below u h k = omega (arith, s.degs u h k, w.above (u - 1) (omega arith))

  found : Candidate N E at d (take N best)
  found =
      let (i, h, e) = w.one (omega (arith, t.edges)) in
      top-code a b.top (i + 1) (omega arith) (omega arith) (omega arith) (sym (degree-at s h) ∙ e)

  the_n_tuple : NTuple N E at (take N best)
  the_n_tuple =
      let (r, i, e, c) = found in
      record {
        root = r;
        inside = i;
        maximum = λ u h k. omega (arith, below u h k);
        is = c;
        largest = λ u h k f. b.top.above u h (omega arith) (f ∙ e);
      }

  pub n_tuple-written : {old new : List ℕ} → new ≡ take (length (take N best)) (take N best) ++ drop (length (take N best)) old → Writes (NTuple N E at) old N new
  n_tuple-written {old} {new} e =
      record {
        result = take N best;
        right = the_n_tuple;
        count = sym (length-take-le N best (omega (arith, b.long)));
        lies = copied (take N best) old new e;
      }

  -- the pairs looked at are those of all roots of maximum degree
  pub n_tuple_summed : {of : ℕ → ℕ} {x : ℕ} → Summed E of d v x → OverWidest N E of x
  n_tuple_summed {of} m =
      let (r, i, e, c) = found in
      let q : v ≡ N = omega (arith, b.within) in
      record {
        root = r;
        inside = i;
        maximum = λ u h k. omega (arith, below u h k);
        is = m.count ∙ ap₂ (of_degree E of) (sym e) q;
      }
