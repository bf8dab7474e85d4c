-- `lines::read_line` meets its contract: each return is one law of reading. Assumes nothing.
use Rattle.std.proofs.Common.{arith}
use Rattle.refusal.proofs.Laws.{clear_of, refusal_of, is_refusal, room_of, short_of}
use Rattle.limits.specs.document.Limits.{size}
use Rattle.lines.specs.document.Judged.{digit_table}
use Rattle.lines.specs.Taking.{stands_length, read-front, read-digits, read_short, read-line}
use Rattle.lines.proofs.Locating.{located, unlocated}
use Rattle.lines.proofs.read_line.Goals as goal

pub returns-in_err-at : goal.returns-in_err-at
returns-in_err-at c = rw (is_refusal c.from_residual.result c.from_residual.ensures.1) (read-front size (digit_table c.args.limit) (unlocated c.in_err-at.ensures))

pub returns-in_err-judge : goal.returns-in_err-judge
returns-in_err-judge c =
    rw (is_refusal c.from_residual-in_err-judge.result c.from_residual-in_err-judge.ensures.1)
    (read-digits size (digit_table c.args.limit) (located c.in_ok-at.ensures) _ (refusal_of c.in_err-judge.ensures))

pub returns-in_err-fits : goal.returns-in_err-fits
returns-in_err-fits c =
    let (e, l) = short_of c.from_residual-in_err-fits.result c.from_residual-in_err-fits.ensures.1 c.in_err-fits.ensures in
    rw e (read_short size (digit_table c.args.limit) (located c.in_ok-at.ensures) _ (clear_of c.in_ok-judge.ensures) l)

pub read_digits-requires : goal.read_digits-requires
read_digits-requires c =
    let h = located c.in_ok-at.ensures in
    record { figures = h.figures; room = omega (arith, stands_length h, room_of c.in_ok-fits.ensures) }

pub returns : goal.returns
returns c =
    read-line size (digit_table c.args.limit) (located c.in_ok-at.ensures) _ (clear_of c.in_ok-judge.ensures) (room_of c.in_ok-fits.ensures) c.read_digits.ensures
