-- Document 01, "Numbering by code": "The vertex of the i-th digit gets number i", of an edge list and a root: which vertex that is. Of equal siblings the one whose edge
-- is listed first goes first. Here stands what rests on `insert_by` or `kids_of`; the rest is in `specs.Numbers`. Assumes nothing.
use Rattle.std.specs.Prelude.{◌≡◌}
use Rattle.std.proofs.Math.Path.{refl, ap, sym, subst}
use Rattle.std.proofs.Common.{◌∙◌, arith}
use mathlib.Core.List.{List, Memᴰ}
use Prim.Native.Nat.{ℕ, suc, ◌-◌, ◌≤◌, ◌<◌}
use Rattle.std.proofs.Math.ListN.{length, get_or, length-map}
use Rattle.laws.specs.Places.{place, at_place, at_in}
use Rattle.digit_code.specs.document.Code.{decode}
use Rattle.skeleton.specs.document.Skeleton.{arcs, children, IsTree, rooted, Renumbering}
use Rattle.skeleton.specs.Forest.{Rooted}
use Rattle.skeleton.specs.Grow.{rooted_tree}
use Rattle.skeleton.specs.document.Label.{Marks, rootedₗ, digits, labels, Keeps}
use Rattle.skeleton.specs.Base.{base, rooted-base, digits-base}
use Rattle.skeleton.specs.Renumber.{rooted_within, back, after}
use Rattle.skeleton.specs.Numbered.{ToldBy, get_or-map_in}
use Rattle.numbering.specs.document.Order.{kids_of, order, mark_at, orderₗ}
use Rattle.numbering.specs.Numbering.{Reads, Orders}
use Rattle.numbering.proofs.Numbering.{tree_numbering}
use Rattle.numbering.specs.Numbers.{Numbers, reads_tree, reads_mark}

-- the renumbering goes from the order o to the order p: the root to the root, labels kept, each vertex to the one that has its place
record Beside (M : Marks) (N : ℕ) (E F : List ℕ) (r q : ℕ) (l k : ℕ → M.Label) (o p : List ℕ) (ρ : Renumbering N E F) : Type 0 where
  root : ρ.to r ≡ q
  keeps : Keeps M N E F l k ρ
  to : (v : ℕ) → ρ.to v ≡ get_or p (place v o) 0
  from : (v : ℕ) → ρ.from v ≡ get_or o (place v p) 0
  at : (i : ℕ) → i < N → ρ.to (get_or o i 0) ≡ get_or p i 0

module _ (M : Marks) (label : ℕ → M.Label) (N : ℕ) (E : List ℕ) (r : ℕ) where
  -- the order of the vertices is one
  pub orderₗ-numbers : IsTree N E → 1 ≤ r → r ≤ N → Orders M label N E r (mark_at M label E r) (orderₗ M label N E r)
  unfolding orderₗ
  orderₗ-numbers t a b = tree_numbering M label N E r (mark_at M label E r) (children (arcs E)) (reads_tree M label N E r) N (omega arith) t a b

  module _ {m : ℕ → ℕ} {o : List ℕ} (x : Orders M label N E r m o) where
    -- the i-th mark of the code is that of the i-th vertex
    mark-at : (i : ℕ) → i < N → get_or (rootedₗ M label N E r) i 0 ≡ m (get_or o i 0)
    mark-at i h = ap (λ l. get_or l i 0) (sym x.code) ∙ get_or-map_in m o i 0 0 (omega (arith, x.all))

    -- the i-th digit is the number of its children
    digit_at : {K : ℕ → ℕ → List ℕ} → Reads M label N E r m K → (i : ℕ) → i < N → get_or (digits M (rootedₗ M label N E r)) i 0 ≡ kids_of E r (get_or o i 0)
    unfolding digits
    digit_at ρ i h =
        let n : length (rootedₗ M label N E r) ≡ N = ap length (sym x.code) ∙ length-map o m ∙ x.all in
        let (a, b) = x.within (get_or o i 0) (at_in o i 0 (omega (arith, x.all))) in
        get_or-map_in M.arity (rootedₗ M label N E r) i 0 0 (omega arith)
        ∙ ap M.arity (mark-at i h ∙ (reads_mark M label N E r) ρ (get_or o i 0) a b)
        ∙ M.arity_mark (kids_of E r (get_or o i 0)) (label (get_or o i 0))

module _ (M : Marks) (N : ℕ) (E F : List ℕ) (r q : ℕ) (l k : ℕ → M.Label) (m n : ℕ → ℕ) (o p : List ℕ) where
  -- trees with equal codes: their orders side by side are a renumbering
  beside : Orders M l N E r m o → Orders M k N F q n p → Rooted N F q → rootedₗ M l N E r ≡ rootedₗ M k N F q → (ρ : Renumbering N E F) × Beside M N E F r q l k o p ρ
  unfolding back after
  beside x y u e =
      let c : List ℕ = rootedₗ M l N E r in
      let D : List ℕ = decode (digits M c) in
      let (σ, a, f, to, from) = x.numbers in
      let z : ToldBy M N F q k p c = subst (ToldBy M N F q k p) (sym e) y.numbers in
      let (τ, b, g, to', from') = z in
      let (i, j) = u.inside q (Memᴰ.head refl) in
      let ρ : Renumbering N E F = after N E D F σ (back N F D (rooted_within N F q u) τ) in
      let there : (v : ℕ) → ρ.to v ≡ get_or p (place v o) 0 = λ v. from' (σ.to v) ∙ (let w : σ.to v - 1 ≡ place v o = omega (arith, to v) in ap (λ s. get_or p s 0) w) in (
        ρ,
        record {
          root = ap τ.from (a ∙ sym b) ∙ τ.from_to q i j;
          keeps = λ v s h.
              let (s', h') = σ.to_in v s h in
              let (s'', h'') = τ.from_in (σ.to v) s' h' in
              sym (g (τ.from (σ.to v)) s'' h'') ∙ ap (labels M c) (τ.to_from (σ.to v) s' h') ∙ f v s h;
          to = there;
          from = λ v. from (τ.to v) ∙ (let w : τ.to v - 1 ≡ place v p = omega (arith, to' v) in ap (λ s. get_or o s 0) w);
          at = λ s h. there (get_or o s 0) ∙ ap (λ w. get_or p w 0) (at_place o s x.once (omega (arith, x.all)));
        },
      )

-- trees with equal codes: the orders of their marks side by side are a renumbering that keeps the labels, root to root
pub orders_besideₗ : (M : Marks) (N : ℕ) (E F : List ℕ) (r q : ℕ) (l k : ℕ → M.Label) → IsTree N E → 1 ≤ r → r ≤ N → IsTree N F → 1 ≤ q → q ≤ N → rootedₗ M l N E r ≡ rootedₗ M k N F q
    → (ρ : Renumbering N E F) × (ρ.to r ≡ q) × Keeps M N E F l k ρ × ((i : ℕ) → i < N → ρ.to (get_or (orderₗ M l N E r) i 0) ≡ get_or (orderₗ M k N F q) i 0)
orders_besideₗ M N E F r q l k t a b u i j e =
    let (ρ, x) =
    beside M N E F r q l k (mark_at M l E r) (mark_at M k F q) (orderₗ M l N E r) (orderₗ M k N F q) (orderₗ-numbers M l N E r t a b) (orderₗ-numbers M k N F q u i j) (rooted_tree N F q u i j) e in
    (ρ, x.root, x.keeps, x.at)

module _ (N : ℕ) (E : List ℕ) (r : ℕ) where
  abbrev alike : ℕ → base.Label
  alike v = tt

  plain : {m : ℕ → ℕ} {K : ℕ → ℕ → List ℕ} {o : List ℕ} → Reads base alike N E r m K → Orders base alike N E r m o → Numbers N E r o
  plain {o = o} ρ x =
      let (σ, a, k, to, from) = x.numbers in
      let z : (σ : Renumbering N E (decode (digits base (rootedₗ base alike N E r)))) × (σ.to r ≡ 1) × ((v : ℕ) → σ.to v ≡ suc (place v o)) × ((i : ℕ) → σ.from i ≡ get_or o (i - 1) 0)
      = (σ, a, to, from) in
      record {
        all = x.all;
        once = x.once;
        within = x.within;
        has = x.has;
        first = x.first;
        digit = rw (digits-base, rooted-base) at (digit_at base alike N E r x ρ);
        numbers = rw (digits-base, rooted-base) at z;
      }

  -- the order of the vertices is that of the digits: "The vertex of the i-th digit gets number i"
  pub order-numbers : IsTree N E → 1 ≤ r → r ≤ N → Numbers N E r (order N E r)
  unfolding order orderₗ
  order-numbers t a b = plain (reads_tree base alike N E r) (orderₗ-numbers base alike N E r t a b)

-- trees with equal rooted codes: their orders side by side are a renumbering, root to root
pub orders_beside : (N : ℕ) (E F : List ℕ) (r q : ℕ) → IsTree N E → 1 ≤ r → r ≤ N → IsTree N F → 1 ≤ q → q ≤ N → rooted N E r ≡ rooted N F q
    → (ρ : Renumbering N E F) × (ρ.to r ≡ q) × ((i : ℕ) → i < N → ρ.to (get_or (order N E r) i 0) ≡ get_or (order N F q) i 0)
unfolding order orderₗ
orders_beside N E F r q t a b u i j e =
    let l : ℕ → base.Label = λ v. tt in
    let (ρ, root, keeps, at) = orders_besideₗ base N E F r q l l t a b u i j (rooted-base l N E r ∙ e ∙ sym (rooted-base l N F q)) in
    (ρ, root, at)
