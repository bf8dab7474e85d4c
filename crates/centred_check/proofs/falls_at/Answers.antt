-- `centred_check::falls_at` meets its contract: the first digits decide, or what is behind them. Assumes nothing.
use native.Mathlib.Omega.{arith}
use Rattle.centred_check.specs.Over.{beside_so, beside_not, beside_by}
use Rattle.centred_check.proofs.Smaller.{by_smaller}
use Rattle.centred_check.proofs.falls_at.Goals as goal

pub returns-then-x-y : goal.returns-then-x-y
returns-then-x-y c =
    let a = c.args in
    by_smaller (λ e. c.if-x-y.true (omega arith))
    (λ l. beside_so a.code.now a.a a.b a.e (omega arith) (omega arith) (omega arith) l)
    (λ l. beside_not a.code.now a.a a.b a.e (omega arith) (omega arith) (omega arith) l)

pub returns : goal.returns
returns c = let a = c.args in beside_by a.code.now a.a a.b a.e (omega arith) (omega arith) (omega arith) (omega arith) c.falls.ensures
