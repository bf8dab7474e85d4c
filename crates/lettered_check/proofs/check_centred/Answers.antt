-- `lettered_check::check_centred` meets its contract. Assumes nothing.
use Rattle.refusal.proofs.Laws.{behind, clear_of, exits}
use mathlib.Core.List.{[], ◌∷◌}
use lib.ListN.{length}
use Rattle.limits.specs.document.Limits.{size}
use Rattle.refusal.specs.document.Table.{row3}
use Rattle.refusal.specs.Laws.{never, others, clear_left}
use Rattle.letters.specs.Lettered.{so_many}
use Rattle.lettered_check.specs.Rows.{answers-behind}
use Rattle.lettered_check.proofs.check_centred.Goals as goal

pub returns-in_err-lent : goal.returns-in_err-lent
returns-in_err-lent c = exits _ c.from_residual.ensures.1 c.in_err-lent.ensures

pub check-requires : goal.check-requires
check-requires c = so_many (length c.args.ds.now) c.args.letters.now (never (others (others (clear_of c.in_ok-lent.ensures))))

pub returns : goal.returns
returns c = let k = clear_of c.in_ok-lent.ensures in
    let three = row3 size (length c.args.ds.now) ∷ [] in
    behind c.in_ok-lent.ensures (answers-behind three _ (clear_left three _ (others k)) c.check.ensures)
