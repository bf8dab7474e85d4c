-- `zurkhovel::matrix::decode_a_zero` keeps its promise. Assumes nothing.
use Rattle.refusal.proofs.Laws.{clear_of, refusal_of, is_refusal, room_of, short_of}
use mathlib.Core.Path.{refl}
use native.Mathlib.Omega.{arith}
use Rattle.refusal.specs.document.Table.{Clear}
use Rattle.refusal.specs.Laws.{at_least, at_most, others}
use Rattle.refusal.specs.Giving.{refused-first}
use Rattle.zurkhovel.specs.document.InEdition.{a_table}
use Rattle.zurkhovel.proofs.Made.{a_bytes, known-short, known-given}
use Rattle.zurkhovel.proofs.matrix.decode_a_zero.Goals as goal

pub returns-in_err-a_zero : goal.returns-in_err-a_zero
returns-in_err-a_zero c = rw (is_refusal c.from_residual.result c.from_residual.ensures.1) (refused-first (refusal_of c.in_err-a_zero.ensures) refl)

pub overflow_sub-need : goal.overflow_sub-need
overflow_sub-need c = let clear : Clear (a_table c.args.edition c.args.n c.args.value) = clear_of c.in_ok-a_zero.ensures in
    at_least (others (clear))

pub overflow_mul-need : goal.overflow_mul-need
overflow_mul-need c = let clear : Clear (a_table c.args.edition c.args.n c.args.value) = clear_of c.in_ok-a_zero.ensures in
    omega (arith, at_most (others (clear)))

pub returns-in_err-fits : goal.returns-in_err-fits
returns-in_err-fits c =
    let clear : Clear (a_table c.args.edition c.args.n c.args.value) = clear_of c.in_ok-a_zero.ensures in
    let (e, l) = short_of c.from_residual-in_err-fits.result c.from_residual-in_err-fits.ensures.1 c.in_err-fits.ensures in
    rw e (known-short (clear) (a_bytes c.args.n c.args.value (clear)) l refl)

pub a_edges-requires : goal.a_edges-requires
a_edges-requires c = let clear : Clear (a_table c.args.edition c.args.n c.args.value) = clear_of c.in_ok-a_zero.ensures in
    (at_least (others (clear)), at_most (others (clear)), omega (arith, (room_of c.in_ok-fits.ensures), a_bytes c.args.n c.args.value (clear)))

pub returns : goal.returns
returns c = let clear : Clear (a_table c.args.edition c.args.n c.args.value) = clear_of c.in_ok-a_zero.ensures in
    known-given (clear) (a_bytes c.args.n c.args.value (clear)) (room_of c.in_ok-fits.ensures) c.a_edges.ensures
