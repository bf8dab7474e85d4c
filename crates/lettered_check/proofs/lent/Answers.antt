-- `lettered_check::lent` meets its contract: its checks answer for the table's rows in order. Assumes nothing.
use Rattle.refusal.proofs.Laws.{behind, exits}
use Rattle.lettered_check.proofs.lent.Goals as goal

pub returns-in_err-known : goal.returns-in_err-known
returns-in_err-known c = exits _ c.from_residual.ensures.1 c.in_err-known.ensures

pub returns-in_err-sized : goal.returns-in_err-sized
returns-in_err-sized c = behind c.in_ok-known.ensures (exits _ c.from_residual-in_err-sized.ensures.1 c.in_err-sized.ensures)

pub returns : goal.returns
returns c = behind c.in_ok-known.ensures
    (behind c.in_ok-sized.ensures c.as_many.ensures)
