-- `centred_check::joined` meets its contract: the loop keeps that the trees passed fall, and the tallest of them. Assumes nothing.
use mathlib.Core.Path.{◌≡◌, subst}
use mathlib.Core.List.{List}
use Prim.Native.Nat.{ℕ, ◌+◌, ◌-◌, ◌≤◌, ◌<◌, max}
use native.Mathlib.Omega.{arith}
use lib.ListN.{length, get_or}
use Rattle.std.proofs.Math.Decide.{dec_lt}
use Rattle.laws.specs.Tells.{was_held, was_denied}
use Rattle.centred_check.specs.Stack.{Topped, top-more, top-same, top-last}
use Rattle.centred_check.specs.Kinds.{kinds}
use Rattle.centred_check.specs.Placed.{Joined, join-none, join_start, join_first, join-second, join_within, join-next, join_stop, join_last}
use Rattle.centred_check.proofs.joined.Goals as goal

-- the tallest of the trees so far and of the one before them
topped_next : {hs : List ℕ} {from to j best : ℕ} → Topped hs from to j best → to ≤ length hs → from < j → Topped hs from to (j - 1) (max best (get_or hs (j - 1) 0))
topped_next {hs} {from} {to} {j} {best} t long l = go (dec_lt best (get_or hs (j - 1) 0))
  where
    go : Dec (best < get_or hs (j - 1) 0) → Topped hs from to (j - 1) (max best (get_or hs (j - 1) 0))
    go (yes g) = let e : max best (get_or hs (j - 1) 0) ≡ get_or hs (j - 1) 0 = omega arith in rw e (top-more t long l g)
    go (no g) = let e : max best (get_or hs (j - 1) 0) ≡ best = omega arith in rw e (top-same t long l (omega arith))

pub returns-then-end-at : goal.returns-then-end-at
returns-then-end-at c = let a = c.args in
    let n : a.at ≡ a.end = omega arith in
    subst (λ (e : ℕ). Joined (kinds a.named).arity a.code.now a.hs.now (get_or a.starts.now a.at 0) a.at e 1) n (join-none (kinds a.named).arity a.code.now a.hs.now (get_or a.starts.now a.at 0) a.at)

pub loop-j-init : goal.loop-j-init
loop-j-init c = join_start (omega arith) (omega arith)

pub falls_at-requires : goal.falls_at-requires
falls_at-requires c =
    let p : c.loop-j.j - 1 + 1 ≡ c.loop-j.j = omega arith in
    let q : c.loop-j.j - 1 + 2 ≡ c.loop-j.j + 1 = omega arith in
    record {
      a_lt_b = rw p (join_first c.requires.placed c.loop-j.invariant c.requires.end_le_size (omega arith));
      b_lt_e = rw (p, q) (join-second c.requires.placed c.loop-j.invariant c.requires.end_le_size (omega arith));
      e_in_bounds = rw q (join_within c.requires.placed c.loop-j.invariant c.requires.end_le_size (omega arith));
    }

pub returns-then-not-falls_at : goal.returns-then-not-falls_at
returns-then-not-falls_at c =
    let p : c.loop-j.j - 1 + 1 ≡ c.loop-j.j = omega arith in
    let q : c.loop-j.j - 1 + 2 ≡ c.loop-j.j + 1 = omega arith in
    let n = was_denied c.falls_at.ensures c.if-not-falls_at.true in
    join_stop c.requires.placed c.loop-j.invariant c.requires.end_le_size (omega arith) (rw (p, q) at n)

pub loop-j-preserved : goal.loop-j-preserved
loop-j-preserved c =
    let p : c.loop-j.j - 1 + 1 ≡ c.loop-j.j = omega arith in
    let q : c.loop-j.j - 1 + 2 ≡ c.loop-j.j + 1 = omega arith in
    let n = was_held c.falls_at.ensures c.if-not-falls_at.false in
    let long : c.args.end ≤ length c.args.hs.now = omega (arith, c.requires.placed, c.requires.at_le_end, c.requires.end_le_size, c.requires.hs_len, c.requires.hs_bound) in
    rw c.max-best.ensures
    (join-next c.requires.placed c.loop-j.invariant c.requires.end_le_size (omega arith) (topped_next c.loop-j.invariant.topped long (omega arith)) (rw (p, q) at n))

pub overflow_add-result : goal.overflow_add-result
overflow_add-result c = omega (arith, top-last c.loop-j.invariant.topped (omega arith), c.requires.placed, c.requires.at_le_end, c.requires.end_le_size, c.requires.hs_len, c.requires.hs_bound)

pub returns : goal.returns
returns c = join_last c.requires.placed c.loop-j.invariant c.requires.end_le_size (omega arith)
