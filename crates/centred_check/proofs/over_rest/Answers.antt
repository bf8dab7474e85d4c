-- `centred_check::over_rest` meets its contract: the first digits decide, or what is behind them. Assumes nothing.
use mathlib.Core.Path.{◌≡◌, refl, sym, ◌∙◌}
use Prim.Native.Nat.{ℕ}
use mathlib.Core.Bool.{true}
use native.Mathlib.Omega.{arith}
use lib.ListN.{get_or}
use Rattle.digit_code.specs.declared.Order.{Order}
use Rattle.digit_code.specs.declared.Order.TheVariants.{Less, Equal, Greater}
use Rattle.digit_code.specs.Compare.{falls?, told-falls}
use Rattle.centred_check.specs.Kinds.{kinds, fewer_by, unit_fits}
use Rattle.centred_check.specs.Over.{rest_not, rest_so, rest_by}
use Rattle.centred_check.proofs.Smaller.{by_smaller}
use Rattle.centred_check.proofs.over_rest.Goals as goal
use Rattle.centred_check.proofs.over_rest.Goals.{in-Less, in_default}

-- an answer that is not Less falls
falls_else : (o : Order) → ((n : ℕ) → o ≡ Less n → ⊥) → falls? o ≡ true
falls_else (Less n) g = absurd (g n refl)
falls_else (Equal n) g = refl
falls_else (Greater n) g = refl

pub overflow_sub-left : goal.overflow_sub-left
overflow_sub-left c = omega (arith, c.step.ensures, unit_fits c.args.named (get_or c.args.code.now 0 0) c.requires.bound)

pub returns-then-here-left : goal.returns-then-here-left
returns-then-here-left c =
    let left_is = fewer_by c.args.named (get_or c.args.code.now 0 0) c.step.result c.step.ensures c.requires.bound in
    let a = c.args in
    by_smaller (λ e. c.if-here-left.true (omega arith))
    (λ l. rest_so (kinds a.named) a.code.now a.x a.y a.e (omega arith) (omega arith) (omega arith) (omega arith) (omega (arith, left_is)))
    (λ l. rest_not (kinds a.named) a.code.now a.x a.y a.e (omega arith) (omega arith) (omega arith) (omega arith) (omega (arith, left_is)))

pub returns : goal.returns
returns c =
    let left_is = fewer_by c.args.named (get_or c.args.code.now 0 0) c.step.result c.step.ensures c.requires.bound in
    let a = c.args in
    elim c.match-matches.branch [
      | in-Less w ↦ rw w.matches-is (rest_by (kinds a.named) a.code.now a.x a.y a.e (omega arith) (omega arith) (omega arith) (omega arith) (omega (arith, left_is)) (told-falls _ _ (sym c.compare_three.ensures ∙ w.in-Less.is)))
      | in_default w ↦
          let t = told-falls _ _ (sym c.compare_three.ensures) in
          rw w.matches-is (rest_by (kinds a.named) a.code.now a.x a.y a.e (omega arith) (omega arith) (omega arith) (omega arith) (omega (arith, left_is)) (rw (falls_else c.compare_three.result w.in_default.not-Less) at t))
    ]
