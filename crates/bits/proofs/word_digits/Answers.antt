-- `bits::word_digits` meets its contract. The loop's invariant: n digits are read, and their code goes on at the bit b. Assumes nothing.
use mathlib.Core.Path.{sym, ◌∙◌}
use native.Mathlib.Omega.{arith}
use Rattle.bits.specs.document.Bits.{word}
use Rattle.bits.specs.Words.{length_word}
use Rattle.bits.specs.Digit.{near_exact}
use Rattle.bits.specs.Found.{sofar_none, twice, sofar_out}
use Rattle.bits.proofs.word_digits.Goals as goal

pub loop-b-init : goal.loop-b-init
loop-b-init c = sofar_none _ _ _ c.requires.len_bound.1

pub digit_in-requires : goal.digit_in-requires
digit_in-requires c = (omega arith, c.requires.len_bound.0)

pub step-requires : goal.step-requires
step-requires c = record { le_limit = c.requires.le_limit; stands = record { few = omega arith; within = omega arith; twice = twice c.loop-b.invariant; long = c.loop-b.invariant.long } }

pub shape_of-out-in-Break : goal.shape_of-out-in-Break
shape_of-out-in-Break c = let a = c.args in
    (c.in-Break.ensures (word a.len a.x) (length_word a.len a.x) c.loop-b.invariant (near_exact _ c.digit_in.ensures)).long ∙ sym c.requires.len_bound.1

pub returns-in-Break : goal.returns-in-Break
returns-in-Break c = let a = c.args in
    c.in-Break.ensures (word a.len a.x) (length_word a.len a.x) c.loop-b.invariant (near_exact _ c.digit_in.ensures)

pub overflow_add-n : goal.overflow_add-n
overflow_add-n c = omega (arith, twice c.loop-b.invariant)

pub loop-b-smaller : goal.loop-b-smaller
loop-b-smaller c = let a = c.args in
    omega (arith, (c.in-Continue.ensures (word a.len a.x) (length_word a.len a.x) c.loop-b.invariant (near_exact _ c.digit_in.ensures)).0)

pub loop-b-preserved : goal.loop-b-preserved
loop-b-preserved c = let a = c.args in
    (c.in-Continue.ensures (word a.len a.x) (length_word a.len a.x) c.loop-b.invariant (near_exact _ c.digit_in.ensures)).1

pub shape_of-out : goal.shape_of-out
shape_of-out c = c.loop-b.invariant.long ∙ sym c.requires.len_bound.1

pub returns : goal.returns
returns c = let a = c.args in sofar_out c.loop-b.invariant (omega (arith, length_word a.len a.x))
