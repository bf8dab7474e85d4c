-- `digit_code::capped` meets its contract: the loop keeps that row 10 applies to no digit passed. Assumes nothing.
use mathlib.Core.Path.{◌≡◌, ap}
use mathlib.Core.List.{List}
use Prim.Native.Nat.{ℕ, ◌+◌}
use native.Mathlib.Omega.{arith}
use lib.ListN.{get_or}
use Rattle.refusal.specs.Checks.{passes, fails}
use Rattle.refusal.specs.Laws.{clear_one}
use Rattle.refusal.proofs.Laws.{first-place}
use Rattle.digit_code.specs.document.Code.{digit}
use Rattle.digit_code.proofs.capped.Goals as goal

-- the digit at i has the number i + 1
at-place : (c : List ℕ) (i : ℕ) → digit c (i + 1) ≡ get_or c i 0
at-place c i = ap (λ k. get_or c k 0) (omega arith)

pub returns-then-top-k : goal.returns-then-top-k
returns-then-top-k c = fails
    (first-place (omega arith, omega arith, omega (arith, c.top.ensures, at-place c.args.code.now c.loop-i.i, c.if-top-k.true)) c.loop-i.invariant)

pub returns : goal.returns
returns c = passes (clear_one (λ q a. c.loop-i.invariant q (omega (arith, a.1)) a))
