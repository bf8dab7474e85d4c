-- `edge_list::check_carbon` meets its contract: a refusal of the list with its letters answers for the whole table, and behind it 14 does. Assumes nothing.
use Rattle.refusal.proofs.Laws.{behind, exits}
use Rattle.edge_list.proofs.check_carbon.Goals as goal

pub returns-in_err-check_letters : goal.returns-in_err-check_letters
returns-in_err-check_letters c = exits _ c.from_residual.ensures.1 c.in_err-check_letters.ensures

pub returns : goal.returns
returns c = behind c.in_ok-check_letters.ensures c.carbon.ensures
