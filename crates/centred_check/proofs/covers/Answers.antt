-- `centred_check::covers` meets its contract: the first digits decide, or what is behind them. Assumes nothing.
use mathlib.Core.Path.{◌≡◌, refl, sym, ◌∙◌}
use Prim.Native.Nat.{ℕ}
use mathlib.Core.Bool.{true}
use native.Mathlib.Omega.{arith}
use lib.ListN.{get_or}
use Rattle.digit_code.specs.declared.Order.{Order}
use Rattle.digit_code.specs.declared.Order.TheVariants.{Less, Equal, Greater}
use Rattle.digit_code.specs.Compare.{rises?, told-rises}
use Rattle.centred_check.specs.Kinds.{kinds, fewer_by, unit_fits}
use Rattle.centred_check.specs.Over.{covers_not, covers_so, covers_by}
use Rattle.centred_check.proofs.Smaller.{by_smaller}
use Rattle.centred_check.proofs.covers.Goals as goal
use Rattle.centred_check.proofs.covers.Goals.{in-Greater, in_default}

-- an answer that is not Greater rises
rises_else : (o : Order) → ((n : ℕ) → o ≡ Greater n → ⊥) → rises? o ≡ true
rises_else (Less n) g = refl
rises_else (Equal n) g = refl
rises_else (Greater n) g = absurd (g n refl)

pub overflow_sub-left : goal.overflow_sub-left
overflow_sub-left c = omega (arith, c.step.ensures, unit_fits c.args.named (get_or c.args.code.now 0 0) c.requires.bound)

pub returns-then-left-child : goal.returns-then-left-child
returns-then-left-child c =
    let left_is = fewer_by c.args.named (get_or c.args.code.now 0 0) c.step.result c.step.ensures c.requires.bound in
    let a = c.args in
    by_smaller (λ e. c.if-left-child.true (omega arith))
    (λ l. covers_so (kinds a.named) a.code.now a.x a.e a.y a.z (omega arith) (omega arith) (omega (arith, left_is)))
    (λ l. covers_not (kinds a.named) a.code.now a.x a.e a.y a.z (omega arith) (omega arith) (omega (arith, left_is)))

pub returns : goal.returns
returns c =
    let left_is = fewer_by c.args.named (get_or c.args.code.now 0 0) c.step.result c.step.ensures c.requires.bound in
    let a = c.args in
    elim c.match-matches.branch [
      | in-Greater w ↦ rw w.matches-is (covers_by (kinds a.named) a.code.now a.x a.e a.y a.z (omega arith) (omega arith) (omega (arith, left_is)) (told-rises _ _ (sym c.compare_two.ensures ∙ w.in-Greater.is)))
      | in_default w ↦
          let t = told-rises _ _ (sym c.compare_two.ensures) in
          rw w.matches-is (covers_by (kinds a.named) a.code.now a.x a.e a.y a.z (omega arith) (omega arith) (omega (arith, left_is)) (rw (rises_else c.compare_two.result w.in_default.not-Greater) at t))
    ]
