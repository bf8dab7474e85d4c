-- `named_lines::number` meets its contract: one digit, two, or more, and no zero in front of others. Assumes nothing.
use mathlib.Core.Bool.{Bool, true}
use mathlib.Core.Path.{◌≡◌}
use mathlib.Core.List.{List}
use Prim.Native.Nat.{ℕ, ◌<◌}
use native.Mathlib.Omega.{arith}
use lib.ListN.{length, get_or}
use Rattle.laws.specs.Each.{each_at}
use Rattle.lines.specs.Form.{Figured}
use Rattle.lines.specs.document.Marks.{WrittenDigit}
use Rattle.lines.specs.Forming.{figured}
use Rattle.named_lines.specs.Finding.{not_written, one_figure, two-figures, more-figures, zero_leads}
use Rattle.named_lines.proofs.number.Goals as goal

-- the byte at i is a digit's
digit_at : (t : List ℕ) {r : Bool} → Figured t r → r ≡ true → (i : ℕ) → i < length t → WrittenDigit (get_or t i 0)
digit_at t g e i l = each_at WrittenDigit t i (figured g e).1 l

pub returns-then-not-digits : goal.returns-then-not-digits
returns-then-not-digits c = not_written c.digits.ensures c.if-not-digits.true

pub returns-then-t-eq1 : goal.returns-then-t-eq1
returns-then-t-eq1 c = one_figure _ (figured c.digits.ensures c.if-not-digits.false).1 c.if-t-eq1.true

pub returns-then-first-eq0 : goal.returns-then-first-eq0
returns-then-first-eq0 c = zero_leads _ c.if-first-eq0.true c.if-t-eq1.false

pub overflow_mul-result : goal.overflow_mul-result
overflow_mul-result c = let h = figured c.digits.ensures c.if-not-digits.false in
    omega (arith, digit_at c.args.t.now c.digits.ensures c.if-not-digits.false 0 h.0)

pub overflow_add-result : goal.overflow_add-result
overflow_add-result c = let h = figured c.digits.ensures c.if-not-digits.false in
    omega (arith, digit_at c.args.t.now c.digits.ensures c.if-not-digits.false 0 h.0, digit_at c.args.t.now c.digits.ensures c.if-not-digits.false 1 (omega (arith, c.if-t-eq2.true)))

pub returns-then-t-eq2 : goal.returns-then-t-eq2
returns-then-t-eq2 c = two-figures _ (figured c.digits.ensures c.if-not-digits.false).1 c.if-first-eq0.false c.if-t-eq2.true

pub returns : goal.returns
returns c = let h = figured c.digits.ensures c.if-not-digits.false in
    more-figures _ h.1 c.if-first-eq0.false (omega (arith, h.0, c.if-t-eq1.false, c.if-t-eq2.false))
