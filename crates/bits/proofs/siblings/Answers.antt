-- `bits::siblings` meets its contract. Assumes nothing.
use Rattle.refusal.proofs.Laws.{clear_of, refusal_of, is_refusal}
use Rattle.bits.specs.Decided.{falling, larger}
use Rattle.bits.proofs.siblings.Goals as goal

pub returns-in_err-ordered : goal.returns-in_err-ordered
returns-in_err-ordered c =
    rw (c.in_ok-n.was, is_refusal c.from_residual-in_err-ordered.result c.from_residual-in_err-ordered.ensures.1) (larger (refusal_of c.in_err-ordered.ensures))

pub returns : goal.returns
returns c = rw c.in_ok-n.was (falling (clear_of c.in_ok-ordered.ensures))
