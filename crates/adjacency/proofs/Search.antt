-- The search for the only lower neighbour, one edge at a time. Assumes nothing.
use mathlib.Core.Path.{◌≡◌, refl, ap, ◌∙◌}
use mathlib.Core.List.{List, [], ◌∷◌, ◌++◌}
use Prim.Native.Nat.{ℕ, ◌+◌, ◌/◌, ◌≤◌, ◌<◌}
use Rattle.std.proofs.Common.{Option, None, Some, is_some, true, false, true≢false}
use Rattle.std.proofs.lemmas.Bool.{false≢true}
use native.Mathlib.Omega.{arith}
use lib.ListN.{length}
use Rattle.edge_list.specs.document.Edges.{Edge, first_end, second_end, before}
use Rattle.adjacency.specs.document.Adjacency.{lower, OneLower}
use Rattle.adjacency.specs.Lower.{lower_nil, lower-one, lower-other, lower_pass, lower-none, lower-more, lower-all, lower_within}
use Rattle.adjacency.specs.Parts.{Gives, Only}

-- ---- one edge

pub down-one : (a b v : ℕ) → 1 ≤ a → b ≡ v → a < v → Gives a b v (Some a)
down-one a b v h e l = (rw (e, lower-one a v [] l, lower_nil v), h, omega arith)

pub down-other : (a b v : ℕ) → 1 ≤ b → a ≡ v → b < v → Gives a b v (Some b)
down-other a b v h e l = (rw (e, lower-other v b [] l, lower_nil v), h, omega arith)

pub down-none : (a b v : ℕ) → (a ≡ v → v ≤ b) → (b ≡ v → v ≤ a) → Gives a b v None
down-none a b v p q = lower_pass a b v [] p q ∙ lower_nil v

-- ---- the edges before p

pub lower-next : (E : List ℕ) (p v : ℕ) {l : List ℕ} → Edge E p → lower (first_end E p ∷ second_end E p ∷ []) v ≡ l → lower (before E (p + 1)) v ≡ lower (before E p) v ++ l
lower-next E p v h e = lower-more E p v h ∙ rw e

-- one is what they give, which is not more than one
abbrev pub Sofar : (E : List ℕ) (v p : ℕ) → Option ℕ → Type 0
Sofar E v p None = lower (before E p) v ≡ []
Sofar E v p (Some w) = (lower (before E p) v ≡ w ∷ []) × (w ≤ v)

pub sofar_none : (E : List ℕ) (v : ℕ) → Sofar E v 1 None
sofar_none E v = lower-none E v

module _ (E : List ℕ) (v p : ℕ) (h : Edge E p) where
  pub sofar_miss : (one : Option ℕ) → Sofar E v p one → Gives (first_end E p) (second_end E p) v None → Sofar E v (p + 1) one
  sofar_miss None s d = lower-next E p v h d ∙ rw s
  sofar_miss (Some w) s d = (lower-next E p v h d ∙ rw s.0, s.1)

  pub sofar_hit : (one : Option ℕ) {u : ℕ} → is_some one ≡ false → Sofar E v p one → Gives (first_end E p) (second_end E p) v (Some u) → Sofar E v (p + 1) (Some u)
  sofar_hit None e s d = (lower-next E p v h d.0 ∙ rw s, d.2)
  sofar_hit (Some w) e s d = absurd (true≢false e)

  -- two
  pub sofar_over : (one : Option ℕ) {u : ℕ} → is_some one ≡ true → Sofar E v p one → Gives (first_end E p) (second_end E p) v (Some u) → OneLower E v → ⊥
  sofar_over None e s d o = false≢true e
  sofar_over (Some w) e s d o =
      let l = lower_within E (p + 1) v (omega arith) (omega (arith, h.1)) in
      let e : length (lower (before E (p + 1)) v) ≡ 2 = ap length (lower-next E p v h d.0) ∙ rw s.0 in
      omega arith

pub sofar_all : (E : List ℕ) (v p : ℕ) (one : Option ℕ) → Sofar E v p one → length E / 2 < p → Only E v one
sofar_all E v p None s h = λ o. let e : lower E v ≡ [] = rw (lower-all E p v (omega arith)) at s in let n : ⊥ = omega (arith, ap length e, o) in n
sofar_all E v p (Some w) s h = (rw (lower-all E p v (omega arith)) at s.0, s.1)

-- ---- what was found

module _ (E : List ℕ) (v : ℕ) where
  pub only_some : (w : Option ℕ) → Only E v w → OneLower E v → is_some w ≡ true
  only_some None n o = absurd (n o)
  only_some (Some w) k o = refl

  pub only_one : (w : Option ℕ) → Only E v w → is_some w ≡ true → OneLower E v
  only_one None n e = absurd (false≢true e)
  only_one (Some w) k e = ap length k.0

  pub only_none : (w : Option ℕ) → Only E v w → is_some w ≡ false → OneLower E v → ⊥
  only_none None n e = n
  only_none (Some w) k e = absurd (true≢false e)
