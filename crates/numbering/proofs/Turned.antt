-- A forest with its trees in another order, at every vertex: it is the same tree (`turned`), and there is one whose vertices as they stand are the order by any marks
-- (`arranged`). Here stands what rests on `insert_by`; the rest is in `specs.Turned`. Assumes nothing.
use Rattle.std.specs.Prelude.{◌≡◌, refl}
use Rattle.std.proofs.Math.Path.{ap, ap₂}
use Rattle.std.proofs.Common.{sym, ◌∙◌}
use mathlib.Core.List.{List, [], ◌∷◌, ◌++◌, map, flatten, append_assoc, nil≢cons, head-eq_of_cons-eq, tail-eq_of_cons-eq, Permᴰ}
use Prim.Native.Nat.{ℕ, zero, suc, ◌≤◌}
use native.Mathlib.Omega.{arith}
use Rattle.laws.specs.Perms.{perm_in, perm_length, front}
use Rattle.laws.specs.Once.{once_perm}
use Rattle.skeleton.specs.Forest.{Forest, none, tree, vertices, count, hung, Rooted}
use Rattle.skeleton.specs.Forests.{gather, gather-vertices, gather-hung, count-vertices, distinct_once}
use Rattle.skeleton.specs.Codes.{roots}
use Rattle.numbering.specs.document.Order.{sort_by, order_by}
use Rattle.numbering.proofs.Sorted.{sort_by_self}
use Rattle.numbering.specs.Turned.{parts, Turned, Follows}

flatten_parts : (f : Forest) → flatten (parts f) ≡ vertices f
unfolding parts vertices flatten
flatten_parts none = refl
flatten_parts (tree v d f) = ap (λ l. v ∷ (vertices d ++ l)) (flatten_parts f)

-- the trees go along with any rearrangement of the lists of their vertices
turn : {K L : List (List ℕ)} → Permᴰ K L → (f : Forest) → parts f ≡ K → Turned f L
unfolding parts gather
turn mathlib.Core.List.Permᴰ.nil f q = record { forest = f; lists = q; same = λ x p. mathlib.Core.List.Permᴰ.refl (gather x p f) }
turn (mathlib.Core.List.Permᴰ.cons e d) none q = absurd (nil≢cons q)
turn (mathlib.Core.List.Permᴰ.cons e d) (tree v b g) q =
    let t = turn d g (tail-eq_of_cons-eq q) in
    record {
      forest = tree v b t.forest;
      lists = ap₂ ◌∷◌ (head-eq_of_cons-eq q ∙ e) t.lists;
      same = λ x p. mathlib.Core.List.Permᴰ.append_left (x p v) (mathlib.Core.List.Permᴰ.append_left (gather x v b) (t.same x p));
    }
turn (mathlib.Core.List.Permᴰ.swap e k) none q = absurd (nil≢cons q)
turn (mathlib.Core.List.Permᴰ.swap e k) (tree v b none) q = absurd (nil≢cons (tail-eq_of_cons-eq q))
turn (mathlib.Core.List.Permᴰ.swap e k) (tree v b (tree u c g)) q =
    record {
      forest = tree u c (tree v b g);
      lists =
          let r = tail-eq_of_cons-eq q in
          ap₂ ◌∷◌ (head-eq_of_cons-eq r ∙ k) (ap₂ ◌∷◌ (head-eq_of_cons-eq q ∙ e) (tail-eq_of_cons-eq r));
      same = λ x p.
          let w : Permᴰ ((x p v ++ gather x v b) ++ ((x p u ++ gather x u c) ++ gather x p g)) ((x p u ++ gather x u c) ++ ((x p v ++ gather x v b) ++ gather x p g))
          = front (x p v ++ gather x v b) (x p u ++ gather x u c) (gather x p g) in
          simp append_assoc at w;
    }
turn (mathlib.Core.List.Permᴰ.trans d e) f q =
    let t = turn d f q in
    let u = turn e t.forest t.lists in
    record { forest = u.forest; lists = u.lists; same = λ x p. mathlib.Core.List.Permᴰ.trans (t.same x p) (u.same x p) }

module _ (m : ℕ → ℕ) (K : ℕ → ℕ → List ℕ) where
  module _ (n p v : ℕ) (d : Forest) (π : Permᴰ (K p v) (roots d)) (t : Turned d (map (order_by m K n v) (roots d))) where
    -- what hangs at v, in the order of the marks
    below : Turned d (sort_by (map m) (map (order_by m K n v) (K p v)))
    below =
        let u : Turned t.forest (sort_by (map m) (map (order_by m K n v) (K p v))) =
        turn (mathlib.Core.List.Permᴰ.trans (mathlib.Core.List.Permᴰ.map (order_by m K n v) (mathlib.Core.List.Permᴰ.symm π)) (sort_by_self (map m) (map (order_by m K n v) (K p v)))) t.forest t.lists in
        record { forest = u.forest; lists = u.lists; same = λ x q. mathlib.Core.List.Permᴰ.trans (t.same x q) (u.same x q) }

    below-vertices : v ∷ vertices below.forest ≡ order_by m K (suc n) p v
    unfolding order_by
    below-vertices = ap (λ l. v ∷ l) (sym (flatten_parts below.forest) ∙ ap flatten below.lists)

  arrange : (n p : ℕ) (f : Forest) → count f ≤ n → Follows K p f → Turned f (map (order_by m K n p) (roots f))
  unfolding count roots parts gather
  arrange n p none h k = record { forest = none; lists = refl; same = λ x q. mathlib.Core.List.Permᴰ.refl [] }
  arrange zero p (tree v d f) h k = let z : ⊥ = omega arith in absurd z
  arrange (suc n) p (tree v d f) h (π, k, l) =
      let a = arrange n v d (omega arith) k in
      let t = below n p v d π a in
      let u = arrange (suc n) p f (omega arith) l in
      record {
        forest = tree v t.forest u.forest;
        lists = ap₂ ◌∷◌ (below-vertices n p v d π a) u.lists;
        same = λ x q.
            mathlib.Core.List.Permᴰ.append_left (x q v)
            (mathlib.Core.List.Permᴰ.trans (mathlib.Core.List.Permᴰ.append_right (gather x q f) (t.same x v)) (mathlib.Core.List.Permᴰ.append_left (gather x v t.forest) (u.same x q)));
      }

module _ (N : ℕ) (E : List ℕ) (r : ℕ) (t : Rooted N E r) where
  -- the same tree, turned
  unfoldable turned : {L : List (List ℕ)} → Turned t.forest L → Rooted N E r
  turned u =
      let f : Forest = t.forest in
      let g : Forest = u.forest in
      let π : Permᴰ (vertices f) (vertices g) = rw (gather-vertices 0 f, gather-vertices 0 g) (u.same (λ a v. v ∷ []) 0) in
      let η : Permᴰ (hung r f) (hung r g) = rw (gather-hung r f, gather-hung r g) (u.same (λ a v. (a, v) ∷ (v, a) ∷ []) r) in
      let σ : Permᴰ (r ∷ vertices f) (r ∷ vertices g) = mathlib.Core.List.Permᴰ.cons refl π in
      record {
        forest = g;
        same = mathlib.Core.List.Permᴰ.trans t.same η;
        apart = λ h. t.apart (perm_in (mathlib.Core.List.Permᴰ.symm π) h);
        distinct = (distinct_once g).1 (once_perm π ((distinct_once f).0 t.distinct));
        inside = λ v h. t.inside v (perm_in (mathlib.Core.List.Permᴰ.symm σ) h);
        all = λ v a b. perm_in σ (t.all v a b);
        full = omega (arith, t.full, perm_length π, count-vertices f, count-vertices g);
      }

  -- its vertices as they stand are the order, whatever the marks
  pub arranged : (m : ℕ → ℕ) (K : ℕ → ℕ → List ℕ) (n p : ℕ) → N ≤ n → Permᴰ (K p r) (roots t.forest) → Follows K r t.forest
      → (s : Rooted N E r) × (r ∷ vertices s.forest ≡ order_by m K n p r)
  unfolding turned
  arranged m K zero p h π k = let z : ⊥ = omega (arith, t.full) in absurd z
  arranged m K (suc n) p h π k =
      let a = arrange m K n r t.forest (omega (arith, t.full)) k in
      (turned (below m K n p r t.forest π a), below-vertices m K n p r t.forest π a)
