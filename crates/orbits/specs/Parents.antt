-- Parents in what a rooted code of marks decodes to, from what is known of each vertex there (`IsVertexₗ` of the crate `numbering`).
--
-- In order: who has a parent; lists of vertices and of codes; a parent has a lower number, and every arc joins a vertex to its parent
-- (`arc_parent`); the code of what hangs at a vertex is its subtree code (`side-code`). Assumes nothing.
use Rattle.std.specs.Prelude.{◌≡◌, refl, ◌⊎◌, ℕ, zero, suc, ◌+◌, ◌-◌, ◌≤◌, ◌<◌, get_or, drop}
use Rattle.std.proofs.Math.Path.{ap, ap₂, sym}
use Rattle.std.proofs.Common.{◌∙◌, subst, arith, drop-cons}
use Rattle.std.proofs.Math.Logic.{inl, inr, ⊎_elim, if_pos, if_neg, Dec.not as dec_not}
use mathlib.Core.List.Memᴰ
use mathlib.Core.List.{List, [], ◌∷◌, map, flatten, Memᴰ}
use Rattle.std.proofs.Math.Decide.{ℕ_discrete}
use Rattle.std.proofs.Math.ListN.{length, length-map}
use Rattle.laws.specs.Falling.{Falling}
use Rattle.laws.specs.Sorting.{sort_stays}
use Rattle.digit_code.specs.document.Code.{plain, digit, codes, child_codes, decode}
use Rattle.digit_code.specs.Ordered.{by_places}
use Rattle.digit_code.specs.Siblings.{child-codes}
use Rattle.skeleton.specs.document.Skeleton.{Arc, arcs, neighbours, children, IsTree}
use Rattle.skeleton.specs.document.Label.{Marks, joinₗ, codeₗ, digits, labels}
use Rattle.skeleton.specs.Label.{IsRootedₗ}
use Rattle.skeleton.specs.General.{decoded_tree}
use Rattle.skeleton.specs.Arcs.{near_arc, arc_near}
use Rattle.skeleton.specs.Codes.{but}
use Rattle.skeleton.specs.Ordered.{code_orderedₗ}
use Rattle.skeleton.specs.Walks.{turn, arc_end}
use Rattle.numbering.specs.document.Decoded.{starts, begins, parent}
use Rattle.numbering.specs.Decoded.{IsVertexₗ}
use Rattle.numbering.proofs.Decoded.{marks-decoded}

-- the root has no parent, and what has one is another vertex
pub root-parent : (c : List ℕ) → parent c 1 ≡ 0
unfolding parent
root-parent c = refl

pub has_parent : (c : List ℕ) (v : ℕ) → 1 ≤ parent c v → 2 ≤ v
unfolding parent
has_parent c zero h = let z : ⊥ = omega arith in absurd z
has_parent c (suc zero) h = let z : ⊥ = omega arith in absurd z
has_parent c (suc (suc v)) h = omega arith

-- every member of l is p or another
but_or : (p w : ℕ) (l : List ℕ) → Memᴰ w l → (w ≡ p) ⊎ Memᴰ w (but p l)
but_or p w [] m = absurd (Memᴰ.not-nil m)
but_or p w (x ∷ l) m = step (ℕ_discrete x p) (Memᴰ.cases_cons m) (but_or p w l)
  where
    step : Dec (x ≡ p) → (w ≡ x) ⊎ Memᴰ w l → (Memᴰ w l → (w ≡ p) ⊎ Memᴰ w (but p l)) → (w ≡ p) ⊎ Memᴰ w (but p (x ∷ l))
    step (yes e) (inl q) r = inl (q ∙ e)
    step (yes e) (inr k) r = rw (if_neg (dec_not (ℕ_discrete x p)) (λ n. n e) (x ∷ but p l) (but p l)) (r k)
    step (no n) (inl q) r = inr (rw (if_pos (dec_not (ℕ_discrete x p)) n (x ∷ but p l) (but p l)) (Memᴰ.head q))
    step (no n) (inr k) r = ⊎_elim inl (λ h. inr (rw (if_pos (dec_not (ℕ_discrete x p)) n (x ∷ but p l) (but p l)) (Memᴰ.tail h))) (r k)

-- codes begin behind one another
starts_high : (v j : ℕ) (cs : List (List ℕ)) → Memᴰ v (starts j cs) → j ≤ v
unfolding starts
starts_high v j [] m = absurd (Memᴰ.not-nil m)
starts_high v j (c ∷ cs) (Memᴰ.head e) = omega arith
starts_high v j (c ∷ cs) (Memᴰ.tail m) = omega (arith, starts_high v (j + length c) cs m)

-- the code of vertex v with all that hangs on it: the first of those that the marks from v on make
abbrev pub subtreeₗ : Marks → List ℕ → ℕ → List ℕ
subtreeₗ M c v = get_or (codes M.arity (drop (v - 1) c)) 0 []

-- the subtree code of a vertex: its mark, then its children's codes
subtree_is : (M : Marks) (c : List ℕ) (v : ℕ) → 1 ≤ v → v ≤ length c → subtreeₗ M c v ≡ digit c v ∷ flatten (child_codes M.arity c v)
unfolding codes child_codes
subtree_is M c v a b =
    let e : suc (v - 1) ≡ v = omega arith in
    ap (λ l. get_or (codes M.arity l) 0 []) (drop-cons c (v - 1) 0 (omega arith) ∙ ap (λ n. digit c v ∷ drop n c) e)

module _ (M : Marks) (c : List ℕ) (x : IsRootedₗ M c) where
  abbrev ds : List ℕ
  ds = digits M c

  abbrev A : List Arc
  A = arcs (decode ds)

  pub tree_ofₗ : IsTree (length c) (decode ds)
  tree_ofₗ = decoded_tree M c ((code_orderedₗ M c).0 x).0

  -- a parent has a lower number
  pub parent_lowₗ : (v : ℕ) → 2 ≤ v → v ≤ length c → (1 ≤ parent ds v) × (parent ds v < v)
  parent_lowₗ v a b = let (h, k, e) = (marks-decoded M c x v (omega arith) b).edge a in (h, k)

  -- and is joined to its child
  pub parent_arc : (v : ℕ) → 2 ≤ v → v ≤ length c → Memᴰ (v, parent ds v) A
  parent_arc v a b = near_arc A v (parent ds v) (rw ((marks-decoded M c x v (omega arith) b).near a) (Memᴰ.head refl))

  -- a vertex is joined to its parent and to its children
  pub arc_down : (u v : ℕ) → Memᴰ (u, v) A → (v ≡ parent ds u) ⊎ Memᴰ v (begins ds u)
  unfolding children
  arc_down u v m =
      let (h, k) = tree_ofₗ.inside u (arc_end (decode ds) (turn (decode ds) m)) in
      ⊎_elim inl (λ n. inr (subst (λ l. Memᴰ v l) (marks-decoded M c x u h k).below n)) (but_or (parent ds u) v (neighbours A u) (arc_near A u v m))

  -- of two joined vertices one is the other's parent
  pub arc_parent : (u v : ℕ) → Memᴰ (u, v) A → (v ≡ parent ds u) ⊎ (u ≡ parent ds v)
  unfolding begins
  arc_parent u v m = step (arc_down u v m) (arc_down v u (turn (decode ds) m))
    where
      step : (v ≡ parent ds u) ⊎ Memᴰ v (begins ds u) → (u ≡ parent ds v) ⊎ Memᴰ u (begins ds v) → (v ≡ parent ds u) ⊎ (u ≡ parent ds v)
      step (inl e) q = inl e
      step (inr h) (inl e) = inr e
      step (inr h) (inr k) =
          let z : ⊥ = omega (arith, starts_high v (u + 1) (child_codes plain ds u) h, starts_high u (v + 1) (child_codes plain ds v) k) in absurd z

  -- its children's codes go down
  pub falling : (v : ℕ) → 1 ≤ v → v ≤ length c → Falling (child_codes M.arity c v)
  falling v a b =
      let e : suc (v - 1) ≡ v = omega arith in
      subst (λ n. Falling (child_codes M.arity c n)) e (rw (child-codes M.arity c (v - 1)) ((by_places M.arity c).0 ((code_orderedₗ M c).0 x).1 (v - 1) (omega arith)))

  -- the code of what hangs at a vertex is its subtree code
  pub side-code : (v : ℕ) → 1 ≤ v → v ≤ length c → codeₗ M (labels M c) (suc (length c)) A (parent ds v) v ≡ subtreeₗ M c v
  unfolding codeₗ joinₗ labels
  side-code v a b =
      let i : IsVertexₗ M c v = marks-decoded M c x v a b in
      let n : length (child_codes M.arity c v) ≡ M.arity (digit c v) = sym (ap length i.coded) ∙ length-map (begins ds v) (codeₗ M (labels M c) (length c) A v) ∙ i.many in
      ap (joinₗ M (labels M c v)) (ap (map (codeₗ M (labels M c) (length c) A v)) i.below ∙ i.coded)
      ∙ ap₂ (λ k l. M.mark k (M.atom (digit c v)) ∷ flatten l) n (sort_stays (child_codes M.arity c v) (falling v a b))
      ∙ ap (λ m. m ∷ flatten (child_codes M.arity c v)) (M.mark_of (digit c v))
      ∙ sym (subtree_is M c v a b)
