-- `centred_check::above` meets its contract: the first marks decide, or what is behind them. Assumes nothing.
use mathlib.Core.Path.{◌≡◌, subst}
use Prim.Native.Nat.{ℕ, ◌≤◌, ◌<◌}
use native.Mathlib.Omega.{arith}
use lib.ListN.{length, get_or, drop}
use Rattle.digit_code.specs.document.Code.{plain, codes}
use Rattle.digit_code.specs.Digits.{digits}
use Rattle.digit_code.specs.Ends.{Ends, ends_sum}
use Rattle.digit_code.specs.Two.{as_long}
use Rattle.centred_check.specs.Kinds.{kinds, more_is, unit_fits}
use Rattle.centred_check.specs.Skip.{Skips, skips_after, root-codes, codes_many, skips_marks}
use Rattle.centred_check.specs.Over.{branch_some, branch_inside, above_not, above_so, above_by}
use Rattle.centred_check.proofs.Smaller.{by_smaller}
use Rattle.centred_check.proofs.above.Goals as goal

pub skip-x-requires : goal.skip-x-requires
skip-x-requires c = let arity : ℕ → ℕ = (kinds c.args.named).arity in
    let long : length c.args.ds.now ≡ length c.args.code.now = as_long (arity) c.args.code.now c.requires.ds_value in
    let some : 1 ≤ length c.args.code.now = omega (arith, ends_sum 1 c.args.ds.now c.requires.ends, long) in
    let many : (i n : ℕ) → n ≤ length (codes (arity) (drop i c.args.code.now)) → n ≤ length (codes plain (drop i c.args.ds.now)) = λ i n h. omega (arith, codes_many (arity) c.args.code.now c.requires.ds_value i) in record { ends = c.requires.ends; from_in_bounds = omega (arith, some, long); many_in_bounds = many 1 c.args.p (omega (arith, c.requires.p_in_bounds)) }

pub bounds-code-0 : goal.bounds-code-0
bounds-code-0 c = let arity : ℕ → ℕ = (kinds c.args.named).arity in
    let long : length c.args.ds.now ≡ length c.args.code.now = as_long (arity) c.args.code.now c.requires.ds_value in
    let some : 1 ≤ length c.args.code.now = omega (arith, ends_sum 1 c.args.ds.now c.requires.ends, long) in
    omega (arith, some)

pub overflow_sub-left : goal.overflow_sub-left
overflow_sub-left c = let arity : ℕ → ℕ = (kinds c.args.named).arity in
    let whole : Ends 1 (digits (arity) c.args.code.now) = subst (Ends 1) c.requires.ds_value c.requires.ends in
    let child : 1 ≤ arity (get_or c.args.code.now 0 0) = omega (arith, root-codes (arity) c.args.code.now (whole), c.requires.p_in_bounds) in
    let fits : c.step.result ≤ get_or c.args.code.now 0 0 = omega (arith, c.step.ensures, unit_fits c.args.named (get_or c.args.code.now 0 0) (child)) in
    omega (arith, fits)

pub bounds-code-x : goal.bounds-code-x
bounds-code-x c = let arity : ℕ → ℕ = (kinds c.args.named).arity in
    let branch : Skips (arity) c.args.code.now 1 c.args.p c.skip-x.result = skips_marks (arity) c.args.code.now c.requires.ds_value c.skip-x.ensures in
    let inside : c.skip-x.result < length c.args.code.now = branch_inside (kinds c.args.named) c.args.code.now c.args.p c.skip-x.result (branch) c.requires.p_in_bounds in
    inside

pub returns-then-left-there : goal.returns-then-left-there
returns-then-left-there c = let arity : ℕ → ℕ = (kinds c.args.named).arity in
    let branch : Skips (arity) c.args.code.now 1 c.args.p c.skip-x.result = skips_marks (arity) c.args.code.now c.requires.ds_value c.skip-x.ensures in
    let long : length c.args.ds.now ≡ length c.args.code.now = as_long (arity) c.args.code.now c.requires.ds_value in
    let some : 1 ≤ length c.args.code.now = omega (arith, ends_sum 1 c.args.ds.now c.requires.ends, long) in
    let whole : Ends 1 (digits (arity) c.args.code.now) = subst (Ends 1) c.requires.ds_value c.requires.ends in
    let child : 1 ≤ arity (get_or c.args.code.now 0 0) = omega (arith, root-codes (arity) c.args.code.now (whole), c.requires.p_in_bounds) in
    let fits : c.step.result ≤ get_or c.args.code.now 0 0 = omega (arith, c.step.ensures, unit_fits c.args.named (get_or c.args.code.now 0 0) (child)) in
    by_smaller (λ e. c.if-left-there.true (omega arith))
    (λ l. above_so (kinds c.args.named) c.args.code.now c.args.p c.skip-x.result (branch) (some) (omega (arith, c.step.ensures, fits, more_is c.args.named (get_or c.args.code.now c.skip-x.result 0))))
    (λ l. above_not (kinds c.args.named) c.args.code.now c.args.p c.skip-x.result (branch) (some) (omega (arith, c.step.ensures, fits, more_is c.args.named (get_or c.args.code.now c.skip-x.result 0))))

pub skip-e-requires : goal.skip-e-requires
skip-e-requires c = let arity : ℕ → ℕ = (kinds c.args.named).arity in
    let branch : Skips (arity) c.args.code.now 1 c.args.p c.skip-x.result = skips_marks (arity) c.args.code.now c.requires.ds_value c.skip-x.ensures in
    let inside : c.skip-x.result < length c.args.code.now = branch_inside (kinds c.args.named) c.args.code.now c.args.p c.skip-x.result (branch) c.requires.p_in_bounds in
    let long : length c.args.ds.now ≡ length c.args.code.now = as_long (arity) c.args.code.now c.requires.ds_value in
    let many : (i n : ℕ) → n ≤ length (codes (arity) (drop i c.args.code.now)) → n ≤ length (codes plain (drop i c.args.ds.now)) = λ i n h. omega (arith, codes_many (arity) c.args.code.now c.requires.ds_value i) in
    let left : 1 ≤ length (codes (arity) (drop c.skip-x.result c.args.code.now)) = branch_some (kinds c.args.named) c.args.code.now c.args.p c.skip-x.result (branch) c.requires.p_in_bounds in record { ends = c.requires.ends; from_in_bounds = omega (arith, inside, long); many_in_bounds = many c.skip-x.result 1 (left) }

pub spot-y-requires : goal.spot-y-requires
spot-y-requires c = let arity : ℕ → ℕ = (kinds c.args.named).arity in
    let branch : Skips (arity) c.args.code.now 1 c.args.p c.skip-x.result = skips_marks (arity) c.args.code.now c.requires.ds_value c.skip-x.ensures in
    let inside : c.skip-x.result < length c.args.code.now = branch_inside (kinds c.args.named) c.args.code.now c.args.p c.skip-x.result (branch) c.requires.p_in_bounds in
    let whole : Ends 1 (digits (arity) c.args.code.now) = subst (Ends 1) c.requires.ds_value c.requires.ends in
    let child : 1 ≤ arity (get_or c.args.code.now 0 0) = omega (arith, root-codes (arity) c.args.code.now (whole), c.requires.p_in_bounds) in record { ds_value = c.requires.ds_value; ends = c.requires.ends; le_x = skips_after (branch); x_in_bounds = inside; skips = skips_marks (arity) c.args.code.now c.requires.ds_value c.skip-e.ensures; bound = child }

pub over-requires : goal.over-requires
over-requires c = let arity : ℕ → ℕ = (kinds c.args.named).arity in
    let branch : Skips (arity) c.args.code.now 1 c.args.p c.skip-x.result = skips_marks (arity) c.args.code.now c.requires.ds_value c.skip-x.ensures in
    let long : length c.args.ds.now ≡ length c.args.code.now = as_long (arity) c.args.code.now c.requires.ds_value in
    let whole : Ends 1 (digits (arity) c.args.code.now) = subst (Ends 1) c.requires.ds_value c.requires.ends in
    let child : 1 ≤ arity (get_or c.args.code.now 0 0) = omega (arith, root-codes (arity) c.args.code.now (whole), c.requires.p_in_bounds) in record { le_x = skips_after (branch); x_lt_y = c.spot-y.ensures.after; y_le_e = c.spot-y.ensures.within; e_in_bounds = omega (arith, c.skip-e.ensures.within, long); bound = child }

pub returns : goal.returns
returns c = let arity : ℕ → ℕ = (kinds c.args.named).arity in
    let branch : Skips (arity) c.args.code.now 1 c.args.p c.skip-x.result = skips_marks (arity) c.args.code.now c.requires.ds_value c.skip-x.ensures in
    let long : length c.args.ds.now ≡ length c.args.code.now = as_long (arity) c.args.code.now c.requires.ds_value in
    let some : 1 ≤ length c.args.code.now = omega (arith, ends_sum 1 c.args.ds.now c.requires.ends, long) in
    let whole : Ends 1 (digits (arity) c.args.code.now) = subst (Ends 1) c.requires.ds_value c.requires.ends in
    let child : 1 ≤ arity (get_or c.args.code.now 0 0) = omega (arith, root-codes (arity) c.args.code.now (whole), c.requires.p_in_bounds) in
    let fits : c.step.result ≤ get_or c.args.code.now 0 0 = omega (arith, c.step.ensures, unit_fits c.args.named (get_or c.args.code.now 0 0) (child)) in
    above_by (kinds c.args.named) c.args.code.now c.args.p c.skip-x.result (branch) (some)
    (omega (arith, c.step.ensures, fits, more_is c.args.named (get_or c.args.code.now c.skip-x.result 0)))
    (skips_marks (arity) c.args.code.now c.requires.ds_value c.skip-e.ensures) c.spot-y.ensures c.over.ensures
