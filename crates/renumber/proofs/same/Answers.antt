-- `renumber::same` meets its contract. Assumes nothing.
use mathlib.Core.Path.{ap, ap₂, sym}
use Prim.Native.Nat.{ℕ}
use native.Mathlib.Omega.{arith}
use borrow.Author.Tests.{eqb-true, eqb-false}
use Rattle.laws.specs.Tells.{tells}
use Rattle.skeleton.specs.document.Skeleton.{Arc}
use Rattle.renumber.proofs.same.Goals as goal

pub returns-then-u-a : goal.returns-then-u-a
returns-then-u-a c = tells _ (λ e. ap₂ (λ (x y : ℕ). (x, y)) (omega arith) (sym (eqb-true _ _ e))) (λ e q. eqb-false _ _ e (sym (ap (λ (x : Arc). x.1) q)))

pub returns-else-u-a : goal.returns-else-u-a
returns-else-u-a c = tells _ (λ e. absurd (c.if-u-a.false (eqb-true _ _ e))) (λ e q. c.if-u-a.false (sym (ap (λ (x : Arc). x.0) q)))
