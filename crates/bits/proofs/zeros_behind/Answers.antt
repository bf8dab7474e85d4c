-- `bits::zeros_behind` meets its contract: the digits found, and what follows them, by `Answered` and `Follow`. Assumes nothing.
use native.Mathlib.Omega.{arith}
use Rattle.refusal.proofs.Laws.{is_refusal}
use Rattle.bits.specs.document.Bits.{Zeros}
use Rattle.bits.specs.Words.{length_word}
use Rattle.bits.specs.Follow.{word_none, word-zeros, word_ones}
use Rattle.bits.specs.Answered.{end_within, answer-refused, answer-more, answer-read}
use Rattle.bits.proofs.zeros_behind.Goals as goal
use Rattle.bits.proofs.zeros_behind.Goals.{then-len-n-via-then-len-n, then-len-n-via-else-len-n+then-x-len-eq0}

pub returns-in_err-n : goal.returns-in_err-n
returns-in_err-n c = rw (is_refusal c.from_residual.result c.from_residual.ensures.1) (answer-refused Zeros c.in_err-n.ensures)

pub overflow_mul-n : goal.overflow_mul-n
overflow_mul-n c = omega (arith, end_within (length_word c.args.len c.args.x) c.in_ok-n.ensures)

pub overflow_sub-n : goal.overflow_sub-n
overflow_sub-n c = omega (arith, end_within (length_word c.args.len c.args.x) c.in_ok-n.ensures)

pub overflow_shl-x : goal.overflow_shl-x
overflow_shl-x c = omega (arith, end_within (length_word c.args.len c.args.x) c.in_ok-n.ensures)

pub returns-then-len-n : goal.returns-then-len-n
returns-then-len-n c =
    let a = c.args in
    let w = end_within (length_word a.len a.x) c.in_ok-n.ensures in
    answer-read Zeros c.in_ok-n.ensures
    (elim c.then-len-n.branch [
      | then-len-n-via-then-len-n v ↦ word_none a.x a.len _ (omega (arith, v.if-len-n.true))
      | then-len-n-via-else-len-n+then-x-len-eq0 v ↦ word-zeros a.x a.len _ w.long (omega arith) v.if-x-len-eq0.true
    ])

pub returns : goal.returns
returns c =
    let a = c.args in
    let w = end_within (length_word a.len a.x) c.in_ok-n.ensures in
    answer-more Zeros c.in_ok-n.ensures (word_ones a.x a.len _ w.long (omega arith) c.if-x-len-eq0.false)
