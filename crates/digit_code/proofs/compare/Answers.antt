-- `digit_code::compare` meets its contract: the loop keeps that the digits passed agree. Assumes nothing.
use mathlib.Core.Path.{◌≡◌, subst}
use mathlib.Core.List.{List}
use Prim.Native.Nat.{ℕ}
use native.Mathlib.Omega.{arith}
use lib.ListN.{length}
use Rattle.digit_code.specs.Comparing.{Agree, second_ends, first_ends, both_end, smaller, larger, one_more}
use Rattle.digit_code.proofs.compare.Goals as goal

-- all digits of a are passed
all : {a b : List ℕ} {i : ℕ} → Agree a b i → i ≡ length a → Agree a b (length a)
all {a} {b} g e = subst (Agree a b) e g

pub returns-then-b-i : goal.returns-then-b-i
returns-then-b-i c = second_ends c.loop-i.invariant (omega arith) (omega arith)

pub returns-then-x-y : goal.returns-then-x-y
returns-then-x-y c = smaller c.loop-i.invariant (omega arith) (omega arith) (omega arith)

pub returns-then-y-x : goal.returns-then-y-x
returns-then-y-x c = larger c.loop-i.invariant (omega arith) (omega arith) (omega arith)

pub loop-i-preserved : goal.loop-i-preserved
loop-i-preserved c = one_more c.loop-i.invariant (omega arith) (omega arith) (omega arith) (omega arith)

pub returns-then-a-b : goal.returns-then-a-b
returns-then-a-b c = first_ends (all c.loop-i.invariant (omega arith)) (omega arith) (omega arith)

pub returns : goal.returns
returns c = both_end (all c.loop-i.invariant (omega arith)) (omega arith) (omega arith)
