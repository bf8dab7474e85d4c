-- `bits::digits` meets its contract. The loop's invariant: n digits are read, and their code goes on at the bit b. Assumes nothing.
use mathlib.Core.Path.{sym, ◌∙◌}
use native.Mathlib.Omega.{arith}
use Rattle.bits.specs.document.Bits.{bytes}
use Rattle.bits.specs.Words.{length_bytes}
use Rattle.bits.specs.Digit.{near_fewer}
use Rattle.bits.specs.Found.{sofar_none, twice, sofar_out}
use Rattle.bits.proofs.digits.Goals as goal

pub overflow_mul-m : goal.overflow_mul-m
overflow_mul-m c = omega arith

pub loop-b-init : goal.loop-b-init
loop-b-init c = sofar_none _ _ _ c.requires.s_len_bound.1

pub digit_at-requires : goal.digit_at-requires
digit_at-requires c = omega arith

pub step-requires : goal.step-requires
step-requires c = record { le_limit = c.requires.le_limit.0; stands = record { few = omega arith; within = omega arith; twice = twice c.loop-b.invariant; long = c.loop-b.invariant.long } }

pub shape_of-out-in-Break : goal.shape_of-out-in-Break
shape_of-out-in-Break c = let s = c.args.s.now in
    (c.in-Break.ensures (bytes s) (length_bytes s) c.loop-b.invariant (near_fewer _ (omega (arith, c.requires.le_limit.1)) c.digit_at.ensures)).long ∙ sym c.requires.s_len_bound.1

pub returns-in-Break : goal.returns-in-Break
returns-in-Break c = let s = c.args.s.now in
    c.in-Break.ensures (bytes s) (length_bytes s) c.loop-b.invariant (near_fewer _ (omega (arith, c.requires.le_limit.1)) c.digit_at.ensures)

pub overflow_add-n : goal.overflow_add-n
overflow_add-n c = omega (arith, twice c.loop-b.invariant)

pub loop-b-smaller : goal.loop-b-smaller
loop-b-smaller c = let s = c.args.s.now in
    omega (arith, (c.in-Continue.ensures (bytes s) (length_bytes s) c.loop-b.invariant (near_fewer _ (omega (arith, c.requires.le_limit.1)) c.digit_at.ensures)).0)

pub loop-b-preserved : goal.loop-b-preserved
loop-b-preserved c = let s = c.args.s.now in
    (c.in-Continue.ensures (bytes s) (length_bytes s) c.loop-b.invariant (near_fewer _ (omega (arith, c.requires.le_limit.1)) c.digit_at.ensures)).1

pub shape_of-out : goal.shape_of-out
shape_of-out c = c.loop-b.invariant.long ∙ sym c.requires.s_len_bound.1

pub returns : goal.returns
returns c = let a = c.args in sofar_out c.loop-b.invariant (omega (arith, length_bytes a.s.now))
