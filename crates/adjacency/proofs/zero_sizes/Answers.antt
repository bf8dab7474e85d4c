-- `adjacency::zero_sizes` meets its contract: 3 is tested before 4, so that the factorial fits a word. Assumes nothing.
use mathlib.Core.Path.{refl}
use mathlib.Core.List.{[], ◌∷◌}
use Prim.Native.Nat.{◌-◌}
use native.Mathlib.Omega.{arith}
use Rattle.refusal.specs.document.Table.{Clear, row3}
use Rattle.refusal.specs.Laws.{at_least, at_most, then_passed}
use Rattle.refusal.proofs.Laws.{clear_of, exits, then_refused}
use Rattle.adjacency.specs.document.Adjacency.{row4_number, factorial}
use Rattle.limits.specs.document.Limits.{zero_size}
use Rattle.adjacency.proofs.zero_sizes.Goals as goal

pub returns-in_err-sized : goal.returns-in_err-sized
returns-in_err-sized c = exits _ c.from_residual.ensures.1 c.in_err-sized.ensures

pub overflow_sub-n : goal.overflow_sub-n
overflow_sub-n c = let clear : Clear (row3 zero_size c.args.n ∷ []) = clear_of c.in_ok-sized.ensures in
    at_least (clear)

pub factorial-requires : goal.factorial-requires
factorial-requires c = let clear : Clear (row3 zero_size c.args.n ∷ []) = clear_of c.in_ok-sized.ensures in
    omega (arith, at_least (clear), at_most (clear))

pub returns-then-factorial-x : goal.returns-then-factorial-x
returns-then-factorial-x c = let clear : Clear (row3 zero_size c.args.n ∷ []) = clear_of c.in_ok-sized.ensures in
    let a = c.args in then_refused (clear) (row4_number (factorial (a.n - 1)) a.x) (refl, rw c.factorial.ensures at c.if-factorial-x.true)

pub returns : goal.returns
returns c = let clear : Clear (row3 zero_size c.args.n ∷ []) = clear_of c.in_ok-sized.ensures in
    let a = c.args in then_passed (clear) (row4_number (factorial (a.n - 1)) a.x) (λ p h. let z : ⊥ = omega (arith, h.1, c.factorial.ensures) in z)
