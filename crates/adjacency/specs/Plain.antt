-- A skeleton's edge list: the ends of an edge differ and are from 1 to N. Assumes nothing.
use Rattle.std.specs.Prelude.{◌≡◌, List, [], ◌∷◌, ℕ, zero, suc, ◌+◌, ◌-◌, ◌*◌, ◌≤◌, ◌<◌}
use Rattle.std.proofs.Common.{inl, inr, arith}
use Rattle.refusal.specs.document.Table.{Outside}
use Rattle.refusal.specs.Laws.{never, others}
use Rattle.skeleton.specs.document.Skeleton.{IsSkeleton}
use Rattle.edge_list.specs.document.Edges.{Edge, first_end, second_end}
use Rattle.edge_list.specs.Theorems.{accepted}
use Rattle.adjacency.specs.Columns.{Plain, none, odd, more}
use Rattle.adjacency.specs.Parts.{Numbered}

-- what 6 and 7 leave of an edge
abbrev Fair : ℕ → List ℕ → ℕ → Type 0
Fair N E p = (Outside N (first_end E p) → ⊥) × (Outside N (second_end E p) → ⊥) × (first_end E p ≡ second_end E p → ⊥)

within : (N v : ℕ) → (Outside N v → ⊥) → (1 ≤ v) × (v ≤ N)
within N v h = let low : v ≡ 0 → ⊥ = λ e. h (inl e) in let high : N < v → ⊥ = λ l. h (inr l) in (omega arith, omega arith)

-- an edge in a list that has one more in front
pub next_one : (p : ℕ) → 1 ≤ p → 2 * (suc p - 1) ≡ suc (suc (2 * (p - 1)))
next_one p h = omega arith

pub next-other : (p : ℕ) → 1 ≤ p → 2 * (suc p - 1) + 1 ≡ suc (suc (2 * (p - 1) + 1))
next-other p h = omega arith

plain-from : (N : ℕ) (E : List ℕ) → ((p : ℕ) → Edge E p → Fair N E p) → Plain N E
plain-from N [] h = none
plain-from N (a ∷ []) h = odd
plain-from N (a ∷ b ∷ E) h =
    let f = h 1 (omega arith) in
    more (within N a f.0) (within N b f.1) f.2 (plain-from N E (λ p k. next p k (h (suc p) (omega (arith, k.0, k.1)))))
  where
    next : (p : ℕ) → Edge E p → Fair N (a ∷ b ∷ E) (suc p) → Fair N E p
    next p k f = rw (next-other p k.0, next_one p k.0) at f

pub plain : {most R N : ℕ} {E : List ℕ} → IsSkeleton most R N E → Plain N E
plain {most} {R} {N} {E} s =
    let c = (accepted most R N E 1).1 (s, (omega arith, omega (arith, s.tree.edges))) in
    let six = others (others c) in
    plain-from N E (λ p k. (λ o. never six p (inr (k, inl o)), λ o. never six p (inr (k, inr o)), λ e. never (others six) p (k, e)))

-- the ends of edge p
pub plain_at : {N : ℕ} {E : List ℕ} → Plain N E → (p : ℕ) → Edge E p → ((1 ≤ first_end E p) × (first_end E p ≤ N)) × ((1 ≤ second_end E p) × (second_end E p ≤ N))
plain_at none p h = absurd (let n : ⊥ = omega (arith, h.0, h.1) in n)
plain_at odd p h = absurd (let n : ⊥ = omega (arith, h.0, h.1) in n)
plain_at (more a b d k) zero h = absurd (let n : ⊥ = omega (arith, h.0) in n)
plain_at (more a b d k) (suc zero) h = (a, b)
plain_at (more a b d k) (suc (suc p)) h =
    let l : 1 ≤ suc p = omega arith in
    rw (next-other (suc p) l, next_one (suc p) l) (plain_at k (suc p) (omega (arith, h.1)))

-- so the ends are from 1 up
pub numbered : {most R N : ℕ} {E : List ℕ} → IsSkeleton most R N E → Numbered E
numbered s = record { ends = λ p h. let r = plain_at (plain s) p h in (r.0.0, r.1.0) }
