-- `centred_check::scan` meets its contract: the loop keeps what the marks read say. Assumes nothing.
use mathlib.Core.Path.{◌≡◌, sym, ◌∙◌, subst}
use Prim.Native.Nat.{ℕ, ◌+◌, ◌-◌, ◌≤◌}
use native.Mathlib.Omega.{arith}
use lib.ListN.{length, get_or}
use Rattle.limits.specs.document.Limits.{size}
use Rattle.digit_code.specs.Two.{as_long, digit_at}
use Rattle.centred_check.specs.Kinds.{kinds}
use Rattle.centred_check.specs.Stack.{stack-low, stack-last}
use Rattle.laws.specs.Tells.{was_held, was_denied}
use Rattle.centred_check.specs.Scan.{Scan, scan_start, scan-room, scan-next, from_first, to_first, to_none, not_small, not_served, not_falling}
use Rattle.centred_check.proofs.scan.Goals as goal
use Rattle.centred_check.proofs.scan.Goals.{then-n-eq0-via-then-n-eq0, then-n-eq0-via-else-n-eq0+then-n-gt-SIZE}

pub returns-then-n-eq0 : goal.returns-then-n-eq0
returns-then-n-eq0 c =
    λ r.
    elim c.then-n-eq0.branch [
      | then-n-eq0-via-then-n-eq0 w ↦ omega (arith, r.some, w.if-n-eq0.true)
      | then-n-eq0-via-else-n-eq0+then-n-gt-SIZE w ↦ omega (arith, r.few, w.if-n-gt-SIZE.true)
    ]

pub loop-i-init : goal.loop-i-init
loop-i-init c = scan_start (kinds c.args.named) (λ m. c.args.limit) c.args.code.now c.args.hs.now c.args.starts.now (omega arith) c.requires.hs_len c.requires.starts_len

pub bounds-ds-i : goal.bounds-ds-i
bounds-ds-i c = omega (arith, c.loop-i.invariant.stacked.within, as_long (kinds c.args.named).arity c.args.code.now c.requires.ds_value)

pub shape_of-hs-then-limit-k : goal.shape_of-hs-then-limit-k
shape_of-hs-then-limit-k c = c.loop-i.invariant.stacked.long ∙ sym c.requires.hs_len

pub shape_of-starts-then-limit-k : goal.shape_of-starts-then-limit-k
shape_of-starts-then-limit-k c = c.loop-i.invariant.laid.long ∙ sym c.requires.starts_len

pub returns-then-limit-k : goal.returns-then-limit-k
returns-then-limit-k c = let few : length c.args.code.now ≤ size = omega (arith, c.if-n-gt-SIZE) in
    let counts = digit_at (kinds c.args.named).arity c.args.code.now c.requires.ds_value (c.loop-i.i - 1) (omega (arith, c.loop-i.invariant.stacked.within)) in
    not_small c.loop-i.invariant few (omega arith) c.requires.le_limit (omega (arith, counts, c.if-limit-k.true))

pub overflow_cast-end : goal.overflow_cast-end
overflow_cast-end c = omega (arith, c.type_inv.ds (c.loop-i.i - 1))

pub overflow_add-end : goal.overflow_add-end
overflow_add-end c = omega (arith, c.type_inv.ds (c.loop-i.i - 1), c.loop-i.invariant.laid.inside)

pub shape_of-hs-then-end-gt-SIZE : goal.shape_of-hs-then-end-gt-SIZE
shape_of-hs-then-end-gt-SIZE c = c.loop-i.invariant.stacked.long ∙ sym c.requires.hs_len

pub shape_of-starts-then-end-gt-SIZE : goal.shape_of-starts-then-end-gt-SIZE
shape_of-starts-then-end-gt-SIZE c = c.loop-i.invariant.laid.long ∙ sym c.requires.starts_len

pub returns-then-end-gt-SIZE : goal.returns-then-end-gt-SIZE
returns-then-end-gt-SIZE c = let few : length c.args.code.now ≤ size = omega (arith, c.if-n-gt-SIZE) in
    let counts = digit_at (kinds c.args.named).arity c.args.code.now c.requires.ds_value (c.loop-i.i - 1) (omega (arith, c.loop-i.invariant.stacked.within)) in
    not_served c.loop-i.invariant few (omega arith) (omega (arith, counts))

pub joined-requires : goal.joined-requires
joined-requires c = let few : length c.args.code.now ≤ size = omega (arith, c.if-n-gt-SIZE) in record { placed = from_first c.loop-i.invariant; at_le_end = omega arith; end_le_size = omega arith; hs_len = c.loop-i.invariant.stacked.long; hs_bound = omega (arith, stack-low c.loop-i.invariant.stacked (c.loop-i.at + get_or c.args.ds.now (c.loop-i.i - 1) 0), few) }

pub shape_of-hs-in_err-h : goal.shape_of-hs-in_err-h
shape_of-hs-in_err-h c = c.loop-i.invariant.stacked.long ∙ sym c.requires.hs_len

pub shape_of-starts-in_err-h : goal.shape_of-starts-in_err-h
shape_of-starts-in_err-h c = c.loop-i.invariant.laid.long ∙ sym c.requires.starts_len

pub returns-in_err-h : goal.returns-in_err-h
returns-in_err-h c = let few : length c.args.code.now ≤ size = omega (arith, c.if-n-gt-SIZE) in
    let counts = digit_at (kinds c.args.named).arity c.args.code.now c.requires.ds_value (c.loop-i.i - 1) (omega (arith, c.loop-i.invariant.stacked.within)) in
    rw c.from_residual.ensures (not_falling c.loop-i.invariant few (omega arith) counts (to_none c.loop-i.invariant _ c.in_err-h.ensures))

pub overflow_sub-at : goal.overflow_sub-at
overflow_sub-at c = let few : length c.args.code.now ≤ size = omega (arith, c.if-n-gt-SIZE) in
    let m = scan-room c.loop-i.invariant few (omega arith) in omega arith

pub bounds-hs-at : goal.bounds-hs-at
bounds-hs-at c = let few : length c.args.code.now ≤ size = omega (arith, c.if-n-gt-SIZE) in
    let m = scan-room c.loop-i.invariant few (omega arith) in omega (arith, c.loop-i.invariant.stacked.long, c.if-end-gt-SIZE.false)

pub overflow_cast-starts-in-loop-i : goal.overflow_cast-starts-in-loop-i
overflow_cast-starts-in-loop-i c = let few : length c.args.code.now ≤ size = omega (arith, c.if-n-gt-SIZE) in
    omega (arith, c.loop-i.invariant.stacked.within, few)

pub bounds-starts-at : goal.bounds-starts-at
bounds-starts-at c = let few : length c.args.code.now ≤ size = omega (arith, c.if-n-gt-SIZE) in
    let m = scan-room c.loop-i.invariant few (omega arith) in omega (arith, c.loop-i.invariant.laid.long, c.if-end-gt-SIZE.false)

pub loop-i-preserved : goal.loop-i-preserved
loop-i-preserved c = let few : length c.args.code.now ≤ size = omega (arith, c.if-n-gt-SIZE) in
    let counts = digit_at (kinds c.args.named).arity c.args.code.now c.requires.ds_value (c.loop-i.i - 1) (omega (arith, c.loop-i.invariant.stacked.within)) in
    scan-next c.loop-i.invariant few (omega arith) counts (omega (arith, c.if-limit-k.false)) (omega arith) (to_first c.loop-i.invariant c.in_ok-h.ensures)

pub rooted-requires : goal.rooted-requires
rooted-requires c = let few : length c.args.code.now ≤ size = omega (arith, c.if-n-gt-SIZE) in
    let n : c.loop-i.i ≡ 1 = omega (arith, c.loop-i.invariant.stacked.some) in record { ds_value = c.requires.ds_value; scan = subst (λ (i : ℕ). Scan (kinds c.args.named) (λ m. c.args.limit) c.args.code.now c.loop-i.hs c.loop-i.starts i c.loop-i.at) n c.loop-i.invariant; code_len_bound = few }

pub shape_of-hs-then-not-rooted : goal.shape_of-hs-then-not-rooted
shape_of-hs-then-not-rooted c = c.loop-i.invariant.stacked.long ∙ sym c.requires.hs_len

pub shape_of-starts-then-not-rooted : goal.shape_of-starts-then-not-rooted
shape_of-starts-then-not-rooted c = c.loop-i.invariant.laid.long ∙ sym c.requires.starts_len

pub returns-then-not-rooted : goal.returns-then-not-rooted
returns-then-not-rooted c = was_denied c.rooted.ensures c.if-not-rooted.true

pub shape_of-hs : goal.shape_of-hs
shape_of-hs c = c.loop-i.invariant.stacked.long ∙ sym c.requires.hs_len

pub shape_of-starts : goal.shape_of-starts
shape_of-starts c = c.loop-i.invariant.laid.long ∙ sym c.requires.starts_len

pub returns : goal.returns
returns c = (was_held c.rooted.ensures c.if-not-rooted.false, stack-last (kinds c.args.named) c.loop-i.invariant.stacked (omega arith))
