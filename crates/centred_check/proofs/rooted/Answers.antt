-- `centred_check::rooted` meets its contract. Assumes nothing.
use mathlib.Core.Path.{◌≡◌}
use mathlib.Core.List.{List}
use Prim.Native.Nat.{ℕ, ◌+◌, ◌≤◌}
use native.Mathlib.Omega.{arith}
use lib.ListN.{length, get_or}
use Rattle.std.specs.Prelude.{Option, Some, None}
use Rattle.std.specs.Option.{is_some}
use Rattle.std.proofs.lemmas.Bool.Decides.{nat_tests}
use Rattle.laws.specs.Tells.{Tells}
use Rattle.limits.specs.document.Limits.{size}
use Rattle.digit_code.specs.Two.{as_long, digit_at}
use Rattle.digit_code.specs.Right.{Rightₗ}
use Rattle.skeleton.specs.document.Label.{Marks}
use Rattle.centred_check.specs.Kinds.{kinds}
use Rattle.centred_check.specs.Stack.{stack-low}
use Rattle.centred_check.specs.Placed.{Joins}
use Rattle.centred_check.specs.Scan.{Scan, from_first, to_first, to_none, root_big, root_open, root_rising, root_right}
use Rattle.centred_check.proofs.rooted.Goals as goal
use Rattle.centred_check.proofs.rooted.Goals.{then-k-limit, else-k-limit}

-- the root's children are served
rooted_by :
    {M : Marks} {limit : ℕ → ℕ} {c hs st : List ℕ} {at : ℕ} (s : Scan M limit c hs st 1 at) → length c ≤ size → at + M.arity (get_or c 0 0) ≡ size → M.arity (get_or c 0 0) ≤ limit (get_or c 0 0)
    → (o : Option ℕ) → Joins M.arity c hs (get_or st at 0) at size o → Tells (Rightₗ M.arity limit size c) (is_some o)
rooted_by s few full low None n = root_rising s few full (to_none s size n)
rooted_by s few full low (Some h) j = root_right s few full (to_first s j) low

pub bounds-ds-0 : goal.bounds-ds-0
bounds-ds-0 c = omega (arith, c.requires.scan.stacked.within, as_long (kinds c.args.named).arity c.args.code.now c.requires.ds_value)

pub overflow_cast-k : goal.overflow_cast-k
overflow_cast-k c = omega (arith, c.type_inv.ds 0)

pub overflow_add-at : goal.overflow_add-at
overflow_add-at c = omega (arith, c.type_inv.ds 0, c.requires.scan.laid.inside)

pub joined-requires : goal.joined-requires
joined-requires c = record { placed = from_first c.requires.scan; at_le_end = c.requires.scan.laid.inside; end_le_size = omega arith; hs_len = c.requires.scan.stacked.long; hs_bound = omega (arith, stack-low c.requires.scan.stacked size, c.requires.code_len_bound) }

pub returns-then-at-k-eq-SIZE : goal.returns-then-at-k-eq-SIZE
returns-then-at-k-eq-SIZE c =
    let counts = digit_at (kinds c.args.named).arity c.args.code.now c.requires.ds_value 0 (omega (arith, c.requires.scan.stacked.within)) in
    elim c.if-k-limit.branch [
      | then-k-limit w ↦
          let full : c.args.at + get_or c.args.ds.now 0 0 ≡ size = grind (arith, nat_tests, w.value-is, c.if-at-k-eq-SIZE.true) in
          rw c.is_some.ensures
          (rooted_by c.requires.scan c.requires.code_len_bound (omega (arith, counts, full)) (omega (arith, counts, w.if-k-limit.true)) c.joined.result c.joined.ensures)
      | else-k-limit w ↦ absurd (grind (arith, nat_tests, w.value-is, w.if-k-limit.false, c.if-at-k-eq-SIZE.true))
    ]

pub returns-else-at-k-eq-SIZE : goal.returns-else-at-k-eq-SIZE
returns-else-at-k-eq-SIZE c =
    let counts = digit_at (kinds c.args.named).arity c.args.code.now c.requires.ds_value 0 (omega (arith, c.requires.scan.stacked.within)) in
    rw c.if-at-k-eq-SIZE.false
    (elim c.if-k-limit.branch [
      | then-k-limit w ↦
          root_open c.requires.scan c.requires.code_len_bound
          (λ e. let full : c.args.at + get_or c.args.ds.now 0 0 ≡ size = omega (arith, counts) in grind (arith, nat_tests, w.value-is, c.if-at-k-eq-SIZE.false))
      | else-k-limit w ↦ root_big c.requires.scan c.requires.code_len_bound (omega (arith, counts, w.if-k-limit.false))
    ])
