-- `edge_list::check` meets its contract: sizes that are refused answer for the whole table, and behind them the rest does. Assumes nothing.
use Rattle.refusal.proofs.Laws.{behind, exits}
use Rattle.edge_list.proofs.check.Goals as goal

pub returns-in_err-sizes : goal.returns-in_err-sizes
returns-in_err-sizes c = exits _ c.from_residual.ensures.1 c.in_err-sizes.ensures

pub returns : goal.returns
returns c = behind c.in_ok-sizes.ensures c.joins.ensures
