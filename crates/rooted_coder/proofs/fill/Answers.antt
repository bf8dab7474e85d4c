-- `rooted_coder::fill` meets its contract: the loop writes the marks that vertices other than the root have. Assumes nothing.
use mathlib.Core.Path.{◌≡◌, refl, sym, ap, ◌∙◌}
use mathlib.Core.List.{List}
use Prim.Native.Nat.{ℕ, ◌+◌, ◌-◌, ◌*◌, ◌≤◌, ◌<◌}
use native.Mathlib.Decide.{ℕ_discrete}
use native.Mathlib.Omega.{arith}
use lib.ListN.{length, get_or, set, length-set}
use lib.Seq.{get_or-set_same, get_or-set_other}
use Rattle.letters.specs.Named.{rank_at}
use Rattle.edge_list.specs.Table.{deg}
use Rattle.rooted_coder.specs.Ordered.{Fills}
use Rattle.rooted_coder.proofs.fill.Invariants.{Marking}
use Rattle.rooted_coder.proofs.fill.Goals as goal

module _ {d a s₀ s : List ℕ} {n i : ℕ} (g : Marking d a s₀ s n i) (fits : n < length s₀) where
  more : (k x : ℕ) → i < n → k ≡ get_or d i 0 - 1 → x ≡ 3 * k + get_or a i 0 → Marking d a s₀ (set s (i + 1) x) n (i + 1)
  more k x h f e = record {
    long = length-set s (i + 1) x ∙ g.long;
    done = λ v l m. step v l m (ℕ_discrete v (i + 1));
  }
    where
      step : (v : ℕ) → 1 ≤ v → v ≤ i + 1 → Dec (v ≡ i + 1) → get_or (set s (i + 1) x) v 0 ≡ 3 * (deg d v - 1) + rank_at a v
      step v l m (yes z) =
          let o : v - 1 ≡ i = omega arith in
          ap (λ w. get_or (set s (i + 1) x) w 0) z ∙ get_or-set_same s (i + 1) x 0 (omega (arith, g.long)) ∙ rw (o, ← f) e
      step v l m (no z) = get_or-set_other s (i + 1) v x 0 z ∙ g.done v l (omega arith)

  filled : (r x : ℕ) → 1 ≤ r → r ≤ n → n ≤ i → x ≡ 3 * deg d r + rank_at a r → Fills d a r n (set s r x)
  filled r x h k l e v j m = (
    λ z. ap (λ u. get_or (set s r x) u 0) z ∙ get_or-set_same s r x 0 (omega (arith, g.long)) ∙ e ∙ ap (λ u. 3 * deg d u + rank_at a u) (sym z),
    λ z. get_or-set_other s r v x 0 z ∙ g.done v j (omega arith),
  )

pub loop-v-init : goal.loop-v-init
loop-v-init c = record { long = refl; done = λ v h k. let z : ⊥ = omega arith in absurd z }

-- the mark of the next vertex fits
pub written-requires : goal.written-requires
written-requires c = let (d, a) = c.requires.4 c.loop-v.v c.loop-v-test.true in
    (omega (arith, c.saturating_sub-k.ensures), a)

pub loop-v-preserved : goal.loop-v-preserved
loop-v-preserved c = let (low, high, few, room, small) = c.requires in
    more c.loop-v.invariant (omega arith) c.saturating_sub-k.result c.written.result c.loop-v-test.true (omega (arith, c.saturating_sub-k.ensures)) c.written.ensures

pub written-requires-2 : goal.written-requires-2
written-requires-2 c = c.requires.4 (c.args.root - 1) (omega arith)

pub returns : goal.returns
returns c = let (low, high, few, room, small) = c.requires in
    filled c.loop-v.invariant (omega arith) c.args.root c.written-2.result low high (omega arith) c.written-2.ensures
