-- `lettered_check::bonded` meets its contract: the loop keeps that row 20 applies to no mark passed. Assumes nothing.
use mathlib.Core.Path.{◌≡◌, ap, ◌∙◌}
use mathlib.Core.List.{List}
use Prim.Native.Nat.{ℕ, ◌-◌, ◌%◌, ◌/◌, ◌≤◌, ◌<◌}
use native.Mathlib.Omega.{arith}
use borrow.Author.Count.{below_more}
use lib.ListN.{length, get_or}
use Rattle.refusal.specs.Checks.{passes, fails}
use Rattle.refusal.specs.Laws.{clear_one}
use Rattle.refusal.proofs.Laws.{first-place}
use Rattle.digit_code.specs.document.Code.{digit, cap}
use Rattle.digit_code.specs.Digits.{digits}
use Rattle.digit_code.specs.Two.{digit_at}
use Rattle.skeleton.specs.document.Label.{row20}
use Rattle.skeleton.specs.document.Atom.{bonds}
use Rattle.skeleton.specs.document.AtomMarks.{atoms}
use Rattle.lettered_check.specs.Rows.{bonded, bonds_are}
use Rattle.lettered_check.proofs.bonded.Goals as goal

-- mark p by its digit, and by what its atom allows
module _ (ds code : List ℕ) (q : ds ≡ digits atoms.arity code) (p : ℕ) {t : ℕ} (told : t ≡ cap (4 - digit code p % 3) p) (some : 1 ≤ p) (within : p ≤ length code) where
  allows : t ≡ cap (bonded (digit code p)) p
  allows = told ∙ ap (λ (m : ℕ). cap m p) (bonds_are (digit code p))

  counts : get_or ds (p - 1) 0 ≡ get_or code (p - 1) 0 / 3
  counts = digit_at atoms.arity code q (p - 1) (omega arith)

  applies : t < get_or ds (p - 1) 0 → (row20 atoms bonds code).applies p
  applies h = (omega arith, omega arith, omega (arith, allows, counts))

  passes_by : get_or ds (p - 1) 0 ≤ t → (row20 atoms bonds code).applies p → ⊥
  passes_by h a = omega (arith, a.2, allows, counts)

pub returns-then-top-ds : goal.returns-then-top-ds
returns-then-top-ds c =
    fails (first-place (applies c.args.ds.now c.args.code.now c.requires c.loop-p.p c.top.ensures (omega arith) (omega arith) c.if-top-ds.true) c.loop-p.invariant)

pub loop-p-preserved : goal.loop-p-preserved
loop-p-preserved c =
    below_more _ _ c.loop-p.invariant
    (passes_by c.args.ds.now c.args.code.now c.requires c.loop-p.p c.top.ensures (omega arith) (omega arith) c.if-top-ds.false)

pub returns-else-top-ds : goal.returns-else-top-ds
returns-else-top-ds c =
    passes (clear_one (λ q a.
    below_more _ _ c.loop-p.invariant
    (passes_by c.args.ds.now c.args.code.now c.requires c.loop-p.p c.top.ensures (omega arith) (omega arith) c.if-top-ds.false)
    q (omega (arith, a.1)) a))

pub returns : goal.returns
returns c = passes (clear_one (λ q a. c.loop-p.invariant q (omega (arith, a.1)) a))
