-- `bits::packed` meets its contract, as `bits::zeros_behind` does; what follows fills the last byte. Assumes nothing.
use native.Mathlib.Omega.{arith}
use Rattle.refusal.proofs.Laws.{is_refusal}
use Rattle.bits.specs.document.Bits.{Fill}
use Rattle.bits.specs.Words.{length_bytes}
use Rattle.bits.specs.Follow.{spare_byte, fill-zeros, fill_ones}
use Rattle.bits.specs.Answered.{end_within, answer-refused, answer-more, answer-read}
use Rattle.bits.proofs.packed.Goals as goal
use Rattle.bits.proofs.packed.Goals.{then-n-s-via-then-n-s, then-n-s-via-else-n-s+then-s-n-ne0}

pub returns-in_err-n : goal.returns-in_err-n
returns-in_err-n c = rw (is_refusal c.from_residual.result c.from_residual.ensures.1) (answer-refused Fill c.in_err-n.ensures)

pub overflow_mul-n : goal.overflow_mul-n
overflow_mul-n c = omega (arith, end_within (length_bytes c.args.s.now) c.in_ok-n.ensures)

pub overflow_add-n : goal.overflow_add-n
overflow_add-n c = omega (arith, end_within (length_bytes c.args.s.now) c.in_ok-n.ensures)

pub overflow_sub-s : goal.overflow_sub-s
overflow_sub-s c = omega (arith, end_within (length_bytes c.args.s.now) c.in_ok-n.ensures)

pub bounds-s-s : goal.bounds-s-s
bounds-s-s c = omega (arith, end_within (length_bytes c.args.s.now) c.in_ok-n.ensures)

pub overflow_mul-n-else-n-s : goal.overflow_mul-n-else-n-s
overflow_mul-n-else-n-s c = omega (arith, end_within (length_bytes c.args.s.now) c.in_ok-n.ensures)

pub overflow_sub-n : goal.overflow_sub-n
overflow_sub-n c = omega (arith, end_within (length_bytes c.args.s.now) c.in_ok-n.ensures)

pub overflow_add-result : goal.overflow_add-result
overflow_add-result c = omega (arith, end_within (length_bytes c.args.s.now) c.in_ok-n.ensures)

pub returns-then-n-s : goal.returns-then-n-s
returns-then-n-s c =
    let s = c.args.s.now in
    let w = end_within (length_bytes s) c.in_ok-n.ensures in
    answer-more Fill c.in_ok-n.ensures
    (elim c.then-n-s.branch [
      | then-n-s-via-then-n-s v ↦ spare_byte s _ w.some w.long v.if-n-s.true
      | then-n-s-via-else-n-s+then-s-n-ne0 v ↦ fill_ones s _ w.some w.long v.if-n-s.false v.if-s-n-ne0.true
    ])

pub returns : goal.returns
returns c =
    let s = c.args.s.now in
    let w = end_within (length_bytes s) c.in_ok-n.ensures in
    answer-read Fill c.in_ok-n.ensures (fill-zeros s _ w.some w.long c.if-n-s.false c.if-s-n-ne0.false)
