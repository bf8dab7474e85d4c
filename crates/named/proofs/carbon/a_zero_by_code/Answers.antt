-- `named::carbon::a_zero_by_code` keeps its promise. Assumes nothing.
use Rattle.refusal.proofs.Giving.{reported_exit}
use Rattle.refusal.proofs.Laws.{clear_of, refusal_of}
use mathlib.Core.Path.{refl}
use mathlib.Core.List.{[]}
use Rattle.refusal.specs.document.Table.{Clear, left}
use Rattle.limits.specs.document.Limits.{a_size, valence}
use Rattle.edge_list.specs.document.Letters.{carbon_rows}
use Rattle.named.specs.Carbon.{answers-carbon}
use Rattle.named.proofs.carbon.a_zero_by_code.Goals as goal

pub returns-in_err-check_carbon : goal.returns-in_err-check_carbon
returns-in_err-check_carbon c = reported_exit _ c.from_residual.result c.from_residual.ensures.1 (left (refusal_of c.in_err-check_carbon.ensures) refl)

pub returns : goal.returns
returns c = let clear : Clear (carbon_rows a_size valence c.args.n c.args.edges.now 1 c.args.letters.now) = clear_of c.in_ok-check_carbon.ensures in
    record { promised = answers-carbon c.args.n c.args.edges.now 1 c.args.letters.now (clear) [] c.a_zero_by_code.ensures.promised; reported = c.a_zero_by_code.ensures.reported }
