-- A list that no row refuses is a skeleton, and a skeleton is refused by no row. The statement is in `Theorems`.
--
-- In order: 8 and the tree; 9 and the degrees; 6 and the vertices; the two ways. Assumes nothing.
use Rattle.std.specs.Prelude.{◌≡◌, refl, ℕ, zero, suc, ◌+◌, ◌-◌, ◌*◌, ◌/◌, ◌%◌, ◌≤◌, ◌<◌, get_or}
use Rattle.std.proofs.Common.{sym, ap, ◌∙◌}
use Rattle.std.proofs.Math.Logic.{inl, inr, ⊎_elim}
use mathlib.Core.List.Memᴰ
use mathlib.Core.List.{List, [], ◌∷◌, Memᴰ}
use Rattle.std.proofs.Math.Decide.{ℕ_discrete}
use native.Mathlib.Omega.{arith}
use Rattle.std.proofs.Math.ListN.{length}
use Rattle.refusal.specs.document.Table.{Outside, Clear, row3}
use Rattle.refusal.specs.Laws.{never, others, clear_one, clear_both}
use Rattle.skeleton.specs.document.Skeleton.{arcs, Walk, here, degree, Degrees, IsSkeleton}
use Rattle.edge_list.specs.document.Edges.{Edge, first_end, second_end, before, Crowded, row5_edges, row6, row7, row8, row9, edge_rows}
use Rattle.edge_list.specs.Prefix.{arcs-all, hit, hit_same, hit_other, degree-more, degree-none, degree-all, degree_within, one_in, other_in}
use Rattle.edge_list.specs.Joined.{alike}
use Rattle.edge_list.specs.Count.{In, Apart}
use Rattle.edge_list.specs.Joins.{Ends, last}

-- ---- 8 and the tree

-- a list of one
only : (R : List ℕ) (u v : ℕ) → length R ≡ 1 → Memᴰ u R → Memᴰ v R → u ≡ v
only [] u v e a b = absurd (Memᴰ.not-nil a)
only (x ∷ []) u v e a b = Memᴰ.eq_of_singleton a ∙ sym (Memᴰ.eq_of_singleton b)
only (x ∷ y ∷ R) u v e a b = absurd (let n : ⊥ = omega arith in n)

-- vertices of one label, no two of which have one
single : (f : ℕ → ℕ) (c : ℕ) (R : List ℕ) → Apart f R → ((v : ℕ) → Memᴰ v R → f v ≡ c) → length R ≤ 1
single f c [] a h = omega arith
single f c (x ∷ []) a h = omega arith
single f c (x ∷ y ∷ R) a h =
    absurd (a.0 y (Memᴰ.head refl) (h x (Memᴰ.head refl) ∙ sym (h y (Memᴰ.tail (Memᴰ.head refl)))))

module _ (N : ℕ) (E : List ℕ) (i : Ends N E) (e : length E + 2 ≡ 2 * N) where
  linked : ((q : ℕ) → (row8 E).applies q → ⊥) → (v : ℕ) → 1 ≤ v → v ≤ N → Walk (arcs E) 1 v
  linked c v l h =
      let s = last N E i in
      let j = s.clean (λ q k a. c q a) in
      let n : length s.reps ≡ 1 = omega (arith, s.count) in
      let a = s.each.covers 1 (omega arith) in
      let b = s.each.covers v (l, h) in
      let t : s.label 1 ≡ s.label v = sym a.2 ∙ ap s.label (only s.reps a.0 b.0 n a.1 b.1) ∙ b.2 in
      rw (← arcs-all E (length E / 2 + 1) (omega arith)) (s.labels.joined 1 v (omega arith) (l, h) t)

  acyclic : ((v : ℕ) → 1 ≤ v → v ≤ N → Walk (arcs E) 1 v) → (q : ℕ) → (row8 E).applies q → ⊥
  acyclic w q a =
      let s = last N E i in
      let same : (v : ℕ) → Memᴰ v s.reps → s.label v ≡ s.label 1 = λ v h.
      let k = s.each.inside v h in sym (alike s.labels (rw (arcs-all E (length E / 2 + 1) (omega arith)) (w v k.0 k.1))) in
      let o = single s.label (s.label 1) s.reps s.each.apart same in
      let d = s.dirty q (omega (arith, a.0)) a in
      omega (arith, s.count)

-- ---- 9 and the degrees

-- no edge is one too many exactly when no vertex has too many neighbours; `limit` tells how many a vertex may have
module _ (limit : ℕ → ℕ) (E : List ℕ) where
  module _ (seven : (q : ℕ) → (row7 E).applies q → ⊥) (room : (q : ℕ) → Crowded limit E q → ⊥) where
    -- one edge more
    more : (p v : ℕ) → Edge E p → degree (before E p) v ≤ limit v → degree (before E (p + 1)) v ≤ limit v
    more p v h l = rw (degree-more E p v h) (step (ℕ_discrete (first_end E p) v) (ℕ_discrete (second_end E p) v))
      where
        step : Dec (first_end E p ≡ v) → Dec (second_end E p ≡ v) → degree (before E p) v + hit (first_end E p) v + hit (second_end E p) v ≤ limit v
        step (yes a) (yes b) = absurd (seven p (h, a ∙ sym b))
        step (yes a) (no b) =
            let n : limit v ≤ degree (before E p) v → ⊥ = λ k. room p (h, inl (rw a k)) in
            omega (arith, hit_same (first_end E p) v a, hit_other (second_end E p) v b)
        step (no a) (yes b) =
            let n : limit v ≤ degree (before E p) v → ⊥ = λ k. room p (h, inr (rw b k)) in
            omega (arith, hit_other (first_end E p) v a, hit_same (second_end E p) v b)
        step (no a) (no b) = omega (arith, hit_other (first_end E p) v a, hit_other (second_end E p) v b)

    upto : (k v : ℕ) → k ≤ length E / 2 → degree (before E (k + 1)) v ≤ limit v
    upto zero v l = rw (degree-none E v) (omega arith)
    upto (suc k) v l = let e : suc k + 1 ≡ k + 1 + 1 = omega arith in rw e (more (k + 1) v (omega arith) (upto k v (omega arith)))

    pub small : (v : ℕ) → degree E v ≤ limit v
    small v = rw (← degree-all E (length E / 2 + 1) v (omega arith)) (upto (length E / 2) v (omega arith))

  pub room-left : (N : ℕ) → ((v : ℕ) → Memᴰ v E → In N v) → ((v : ℕ) → 1 ≤ v → v ≤ N → degree E v ≤ limit v) → (p : ℕ) → Crowded limit E p → ⊥
  room-left N i d p (h, o) =
      ⊎_elim (at (first_end E p) (one_in E p h) (omega (arith, hit_same (first_end E p) (first_end E p) refl)))
      (at (second_end E p) (other_in E p h) (omega (arith, hit_same (second_end E p) (second_end E p) refl))) o
    where
      at : (v : ℕ) → Memᴰ v E → 1 ≤ hit (first_end E p) v + hit (second_end E p) v → limit v ≤ degree (before E p) v → ⊥
      at v m k l = let (a, b) = i v m in omega (arith, d v a b, degree_within E p v h)

-- ---- 6 and the vertices

in_of : (N v : ℕ) → (Outside N v → ⊥) → In N v
in_of N v n = let z : v ≡ 0 → ⊥ = λ e. n (inl e) in let k : N < v → ⊥ = λ l. n (inr l) in omega arith

out_of : (N v : ℕ) → In N v → Outside N v → ⊥
out_of N v i o = ⊎_elim (λ e. let n : ⊥ = omega arith in n) (λ l. let n : ⊥ = omega arith in n) o

-- where a vertex stands in the list
place : (E : List ℕ) (v : ℕ) → Memᴰ v E → (i : ℕ) × (i < length E) × (v ≡ get_or E i 0)
place [] v h = absurd (Memᴰ.not-nil h)
place (x ∷ E) v (Memᴰ.head e) = (0, omega arith, e)
place (x ∷ E) v (Memᴰ.tail h) = let r = place E v h in (suc r.0, omega arith, r.2)

-- a list of whole edges has vertices alone where their ends are
inside : (N : ℕ) (E : List ℕ) → Ends N E → length E + 2 ≡ 2 * N → (v : ℕ) → Memᴰ v E → In N v
unfolding Ends
inside N E i e v h = step (ℕ_discrete (r.0 % 2) 0)
  where
    r : (i : ℕ) × (i < length E) × (v ≡ get_or E i 0)
    r = place E v h

    step : Dec (r.0 % 2 ≡ 0) → In N v
    step (yes z) =
        let k : r.0 ≡ 2 * (r.0 / 2 + 1 - 1) = omega arith in
        rw (r.2, k) (i (r.0 / 2 + 1) (omega (arith, r.1))).0
    step (no n) =
        let k : r.0 ≡ 2 * (r.0 / 2 + 1 - 1) + 1 = omega arith in
        rw (r.2, k) (i (r.0 / 2 + 1) (omega (arith, r.1))).1

-- ---- the two ways

module _ (most R N : ℕ) (E : List ℕ) (r : ℕ) where
  pub is_skeleton : Clear (edge_rows most R N E r) → IsSkeleton most R N E × ((1 ≤ r) × (r ≤ N))
  unfolding Ends Degrees
  is_skeleton c =
      let c5 = others c in
      let c6 = others c5 in
      let c7 = others c6 in
      let c8 = others c7 in
      let c9 = others c8 in
      let n : In most N = in_of most N (λ o. never c 0 (refl, o)) in
      let e : length E + 2 ≡ 2 * N = edges n.0 (λ k. never c5 0 (refl, k)) in
      let i : Ends N E = λ p h. (in_of N (first_end E p) (λ o. never c6 p (inr (h, inl o))), in_of N (second_end E p) (λ o. never c6 p (inr (h, inr o)))) in (
        record {
          tree = record { edges = e; inside = λ v h. inside N E i e v h; linked = linked N E i e (never c8) };
          few = n.1;
          degrees = λ v l h. small (λ v. R) E (never c7) (never c9) v;
        },
        in_of N r (λ o. never c6 0 (inl (refl, o))),
      )
    where
      edges : 1 ≤ N → ((length E ≡ 2 * (N - 1) → ⊥) → ⊥) → length E + 2 ≡ 2 * N
      edges l n = step (ℕ_discrete (length E) (2 * (N - 1)))
        where
          step : Dec (length E ≡ 2 * (N - 1)) → length E + 2 ≡ 2 * N
          step (yes e) = omega arith
          step (no k) = absurd (n k)

  pub is_clear : IsSkeleton most R N E → (1 ≤ r) × (r ≤ N) → Clear (edge_rows most R N E r)
  unfolding Ends Degrees
  is_clear s root =
      let t = s.tree in
      let i : Ends N E = λ p h. (t.inside (first_end E p) (one_in E p h), t.inside (second_end E p) (other_in E p h)) in
      let e = t.edges in
      let few = s.few in
      let eight : (q : ℕ) → (row8 E).applies q → ⊥ = acyclic N E i e t.linked in
      clear_both (clear_one {r = row3 most N} (λ p a. out_of most N (omega arith) a.1))
      (clear_both (clear_one {r = row5_edges N E} (λ p a. a.1 (omega arith)))
      (clear_both
      (clear_one {r = row6 N E r}
      (λ p a. ⊎_elim (λ b. out_of N r root b.1) (λ b. let k = i p b.0 in ⊎_elim (out_of N (first_end E p) k.0) (out_of N (second_end E p) k.1) b.1) a))
      (clear_both (clear_one {r = row7 E} (λ p a. eight p (a.0, rw a.1 here)))
      (clear_both (clear_one {r = row8 E} eight)
      (clear_one {r = row9 R E} (room-left (λ v. R) E N t.inside s.degrees))))))
