-- `lines::passed` meets its contract: the loop keeps that no byte passed is k. Assumes nothing.
use mathlib.Core.Path.{◌≡◌}
use mathlib.Core.List.{List}
use Prim.Native.Nat.{ℕ, ◌+◌, ◌-◌, ◌≤◌}
use native.Mathlib.Omega.{arith}
use lib.ListN.{length, take, drop}
use lib.Seq.{take-add}
use Rattle.laws.specs.document.Each.{Each}
use Rattle.laws.specs.Each.{Passed, each-join}
use Rattle.lines.proofs.passed.Goals as goal

-- a part more
part-more : {P : ℕ → Type 0} {t : List ℕ} {i : ℕ} (n : ℕ) → Passed P t i → i + n ≤ length t → Each P (take n (drop i t)) → Passed P t (i + n)
part-more {P} {t} {i} n h l f = record { within = l; each = rw (take-add i n t) (each-join P (take i t) (take n (drop i t)) h.each f) }

pub loop-i-preserved : goal.loop-i-preserved
loop-i-preserved c = let f = c.none.ensures c.if-not-none.false in
    let e : c.loop-i.i + 16 - c.loop-i.i ≡ 16 = omega arith in
    part-more 16 c.loop-i.invariant (omega arith) (rw e at f)
