-- `bits::number` meets its contract, as `bits::zeros_behind` does; nothing may follow. Assumes nothing.
use Prim.Native.Nat.{◌-◌, ◌*◌}
use native.Mathlib.Omega.{arith}
use Rattle.refusal.proofs.Laws.{is_refusal}
use Rattle.bits.specs.document.Bits.{Nothing}
use Rattle.bits.specs.Words.{length_word}
use Rattle.bits.specs.Follow.{word_nothing, word_something}
use Rattle.bits.specs.Answered.{end_within, answer-refused, answer-more, answer-read}
use Rattle.bits.proofs.number.Goals as goal

pub returns-in_err-e : goal.returns-in_err-e
returns-in_err-e c = rw (is_refusal c.from_residual.result c.from_residual.ensures.1) (answer-refused Nothing c.in_err-e.ensures)

pub returns-then-e-n : goal.returns-then-e-n
returns-then-e-n c =
    let a = c.args in
    let w = end_within (length_word (2 * a.n - 1) a.x) c.in_ok-e.ensures in
    answer-more Nothing c.in_ok-e.ensures (word_something a.x (2 * a.n - 1) _ w.long (omega arith))

pub returns : goal.returns
returns c = let a = c.args in
    answer-read Nothing c.in_ok-e.ensures (word_nothing a.x (2 * a.n - 1) _ (omega arith))
