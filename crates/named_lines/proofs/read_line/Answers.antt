-- `named_lines::read_line` meets its contract: each return is one law of reading. Assumes nothing.
use Rattle.std.proofs.Common.{sym, ◌∙◌, inl, inr, arith}
use Rattle.refusal.proofs.Laws.{clear_of, refusal_of, is_refusal, room_of, short_of}
use Rattle.named_lines.specs.Standing.{located, unlocated, digits_length, letters_length, read-front, read_letters, read_short, read-line}
use Rattle.named_lines.proofs.read_line.Goals as goal

pub returns-in_err-at : goal.returns-in_err-at
returns-in_err-at c = rw (is_refusal c.from_residual.result c.from_residual.ensures.1) (read-front (unlocated c.in_err-at.ensures))

pub judge-requires : goal.judge-requires
judge-requires c =
    let h = located c.in_ok-at.ensures in
    record { written_digits = h.figures; t_len_bound = omega (arith, h.few, digits_length h); letters_len = letters_length h ∙ sym (digits_length h) }

pub returns-in_err-judge : goal.returns-in_err-judge
returns-in_err-judge c =
    rw (is_refusal c.from_residual-in_err-judge.result c.from_residual-in_err-judge.ensures.1)
    (read_letters (located c.in_ok-at.ensures) _ _ (refusal_of c.in_err-judge.ensures))

pub returns-in_err-fits : goal.returns-in_err-fits
returns-in_err-fits c =
    let (e, l) = short_of c.from_residual-in_err-fits.result c.from_residual-in_err-fits.ensures.1 c.in_err-fits.ensures in
    rw e (read_short (located c.in_ok-at.ensures) _ _ (clear_of c.in_ok-judge.ensures) (inl l))

pub read_digits-requires : goal.read_digits-requires
read_digits-requires c =
    let h = located c.in_ok-at.ensures in
    record { figures = h.figures; room = omega (arith, digits_length h, room_of c.in_ok-fits.ensures) }

pub returns : goal.returns
returns c =
    read-line (located c.in_ok-at.ensures) _ _ (clear_of c.in_ok-judge.ensures) (room_of c.in_ok-fits.ensures) (room_of c.in_ok-fits-2.ensures) c.read_digits.ensures c.lay.ensures

pub returns-in_err-fits-2 : goal.returns-in_err-fits-2
returns-in_err-fits-2 c =
    let (e, l) = short_of c.from_residual-in_err-fits-2.result c.from_residual-in_err-fits-2.ensures.1 c.in_err-fits-2.ensures in
    rw e (read_short (located c.in_ok-at.ensures) _ _ (clear_of c.in_ok-judge.ensures) (inr l))

pub lay-requires : goal.lay-requires
lay-requires c = omega (arith, letters_length (located c.in_ok-at.ensures), room_of c.in_ok-fits-2.ensures)
