-- `centred_check::middle` meets its contract: the loop keeps the two tallest of the branches passed. Assumes nothing.
use mathlib.Core.Path.{◌≡◌}
use mathlib.Core.Bool.{true, false}
use mathlib.Core.List.{List}
use Prim.Native.Nat.{ℕ, ◌-◌, ◌<◌, max}
use native.Mathlib.Omega.{arith}
use lib.Dec.{eqb}
use lib.ListN.{get_or}
use Rattle.std.proofs.Math.Decide.{dec_lt}
use Rattle.std.proofs.lemmas.Bool.Decides.{nat_tests}
use Rattle.centred_check.specs.Race.{Race, race_start, race_next, race_low, race_first, race_high, race_even, race_apart, race_inside, race_close}
use Rattle.centred_check.proofs.middle.Goals as goal

race_max :
    {hs : List ℕ} {from j first next at : ℕ} → Race hs from j first next at → from < j → get_or hs (j - 1) 0 < first
    → Race hs from (j - 1) first (max next (get_or hs (j - 1) 0)) at
race_max {hs} {from} {j} {first} {next} {at} r l g = go (dec_lt next (get_or hs (j - 1) 0))
  where
    go : Dec (next < get_or hs (j - 1) 0) → Race hs from (j - 1) first (max next (get_or hs (j - 1) 0)) at
    go (yes k) = let e : max next (get_or hs (j - 1) 0) ≡ get_or hs (j - 1) 0 = omega arith in rw e (race_next r l g k)
    go (no k) = let e : max next (get_or hs (j - 1) 0) ≡ next = omega arith in rw e (race_low r l g (omega arith))

pub loop-j-init : goal.loop-j-init
loop-j-init c = race_start c.requires.branches.inside

pub loop-j-preserved : goal.loop-j-preserved
loop-j-preserved c = race_first c.loop-j.invariant (omega arith) (omega arith)

pub overflow_sub-first : goal.overflow_sub-first
overflow_sub-first c = omega (arith, race_high c.loop-j.invariant)

pub overflow_sub-at : goal.overflow_sub-at
overflow_sub-at c = omega (arith, c.loop-j.invariant.at_is)

pub above-requires : goal.above-requires
above-requires c = record { ds_value = c.requires.ds_value; ends = c.requires.ends; p_in_bounds = race_inside c.loop-j.invariant (omega arith) c.requires.branches c.if-first-next.false }

pub loop-j-preserved-then-h-first : goal.loop-j-preserved-then-h-first
loop-j-preserved-then-h-first c = rw c.max-next.ensures (race_max c.loop-j.invariant (omega arith) (omega arith))

pub returns-then-first-next : goal.returns-then-first-next
returns-then-first-next c =
    let e : eqb c.loop-j.first c.loop-j.next ≡ true = grind (arith, nat_tests) in
    rw e (race_even c.loop-j.invariant (omega arith) c.requires.branches c.if-first-next.true)

pub returns-then-first-next-2 : goal.returns-then-first-next-2
returns-then-first-next-2 c = race_close c.loop-j.invariant (omega arith) c.requires.branches c.if-first-next.false (omega (arith, race_high c.loop-j.invariant)) c.above.ensures

pub returns-else-first-next-2 : goal.returns-else-first-next-2
returns-else-first-next-2 c =
    let e : eqb (c.loop-j.first - 1) c.loop-j.next ≡ false = grind (arith, nat_tests) in
    rw e (race_apart c.loop-j.invariant (omega arith) c.requires.branches c.if-first-next.false (λ e. let z : _ = c.if-first-next-2.false in z (omega arith)))
