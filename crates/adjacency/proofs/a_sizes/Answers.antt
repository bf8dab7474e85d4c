-- `adjacency::a_sizes` meets its contract: 3 is tested before 4, so that the range fits a word, and 4 before 5. Assumes nothing.
use Rattle.std.specs.Prelude.{Ok}
use mathlib.Core.Path.{◌≡◌, refl}
use Prim.Native.Nat.{ℕ, ◌-◌, ◌*◌, ◌/◌, ◌^◌, ◌≤◌, ◌<◌, ◌%◌}
use Rattle.refusal.specs.document.Table.{Row, Clear, row3}
use Rattle.refusal.specs.Checks.{Answers, passes, fails}
use mathlib.Core.List.{[], ◌∷◌}
use Rattle.refusal.specs.Laws.{stops, clear_one, at_least, at_most, then_passed}
use Rattle.refusal.proofs.Laws.{clear_of, exits, goes_on, first-place, then_refused}
use Rattle.adjacency.specs.document.Adjacency.{row4_number}
use Rattle.limits.specs.document.Limits.{a_size}
use Rattle.adjacency.proofs.Summing.{rows_few, shift_one}
use native.Mathlib.Omega.{arith}
use Rattle.adjacency.proofs.a_sizes.Goals as goal

-- 4
abbrev top : ℕ → ℕ → Row
top n x = row4_number (2 ^ (n * (n - 1) / 2)) x

pub returns-in_err-sized : goal.returns-in_err-sized
returns-in_err-sized c = exits _ c.from_residual.ensures.1 c.in_err-sized.ensures

pub overflow_sub-n : goal.overflow_sub-n
overflow_sub-n c = let clear : Clear (row3 a_size c.args.n ∷ []) = clear_of c.in_ok-sized.ensures in
    at_least (clear)

pub overflow_mul-n : goal.overflow_mul-n
overflow_mul-n c = let clear : Clear (row3 a_size c.args.n ∷ []) = clear_of c.in_ok-sized.ensures in
    let few : let n = c.args.n in n * (n - 1) ≤ 110 = rows_few (at_most (clear)) in
    omega (arith, few)

pub overflow_shl-n : goal.overflow_shl-n
overflow_shl-n c = let clear : Clear (row3 a_size c.args.n ∷ []) = clear_of c.in_ok-sized.ensures in
    let few : let n = c.args.n in n * (n - 1) ≤ 110 = rows_few (at_most (clear)) in
    omega (arith, few)

pub returns-then-n-x : goal.returns-then-n-x
returns-then-n-x c = let clear : Clear (row3 a_size c.args.n ∷ []) = clear_of c.in_ok-sized.ensures in
    let few : let n = c.args.n in n * (n - 1) ≤ 110 = rows_few (at_most (clear)) in
    let whole : let n = c.args.n in (1 * 2 ^ (n * (n - 1) / 2)) % 2 ^ 64 ≡ 2 ^ (n * (n - 1) / 2) = let n = c.args.n in shift_one (let k : n * (n - 1) / 2 < 64 = omega (arith, few) in k) in
    let a = c.args in stops _ (then_refused (clear) (top a.n a.x) (refl, rw (whole) at c.if-n-x.true)) refl

pub overflow_sub-n-2 : goal.overflow_sub-n-2
overflow_sub-n-2 c = let clear : Clear (row3 a_size c.args.n ∷ []) = clear_of c.in_ok-sized.ensures in
    at_least (clear)

pub returns-then-x-n : goal.returns-then-x-n
returns-then-x-n c = let clear : Clear (row3 a_size c.args.n ∷ []) = clear_of c.in_ok-sized.ensures in
    let few : let n = c.args.n in n * (n - 1) ≤ 110 = rows_few (at_most (clear)) in
    let whole : let n = c.args.n in (1 * 2 ^ (n * (n - 1) / 2)) % 2 ^ 64 ≡ 2 ^ (n * (n - 1) / 2) = let n = c.args.n in shift_one (let k : n * (n - 1) / 2 < 64 = omega (arith, few) in k) in
    let in_range : let a = c.args in Answers (row3 a_size a.n ∷ top a.n a.x ∷ []) (Ok tt) = let a = c.args in
    then_passed (clear) (top a.n a.x) (λ p h. let z : ⊥ = omega (arith, h.1, rw (whole) at c.if-n-x.false) in z) in
    goes_on (in_range) refl (fails (first-place (refl, c.if-x-n.true) (λ q l a. let z : ⊥ = omega arith in z)))

pub returns : goal.returns
returns c = let clear : Clear (row3 a_size c.args.n ∷ []) = clear_of c.in_ok-sized.ensures in
    let few : let n = c.args.n in n * (n - 1) ≤ 110 = rows_few (at_most (clear)) in
    let whole : let n = c.args.n in (1 * 2 ^ (n * (n - 1) / 2)) % 2 ^ 64 ≡ 2 ^ (n * (n - 1) / 2) = let n = c.args.n in shift_one (let k : n * (n - 1) / 2 < 64 = omega (arith, few) in k) in
    let in_range : let a = c.args in Answers (row3 a_size a.n ∷ top a.n a.x ∷ []) (Ok tt) = let a = c.args in
    then_passed (clear) (top a.n a.x) (λ p h. let z : ⊥ = omega (arith, h.1, rw (whole) at c.if-n-x.false) in z) in
    goes_on (in_range) refl (passes (clear_one (λ p h. h.1 (omega (arith, c.if-x-n.false)))))
