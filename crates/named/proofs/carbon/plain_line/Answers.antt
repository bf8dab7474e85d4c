-- `named::carbon::plain_line` keeps its promise. Assumes nothing.
use Rattle.refusal.proofs.Giving.{reported_exit}
use Rattle.refusal.proofs.Laws.{clear_of, refusal_of}
use mathlib.Core.Path.{refl}
use mathlib.Core.List.{[]}
use Rattle.refusal.specs.document.Table.{Clear}
use Rattle.refusal.specs.Giving.{refused-first}
use Rattle.limits.specs.document.Limits.{size, valence}
use Rattle.edge_list.specs.document.Letters.{carbon_rows}
use Rattle.named.specs.Carbon.{gives_carbon}
use Rattle.named.proofs.carbon.plain_line.Goals as goal

pub returns-in_err-check_carbon : goal.returns-in_err-check_carbon
returns-in_err-check_carbon c = reported_exit _ c.from_residual.result c.from_residual.ensures.1 (refused-first (refusal_of c.in_err-check_carbon.ensures) refl)

pub returns : goal.returns
returns c = let clear : Clear (carbon_rows size valence c.args.n c.args.edges.now 1 c.args.letters.now) = clear_of c.in_ok-check_carbon.ensures in
    record { promised = gives_carbon c.args.n c.args.edges.now 1 c.args.letters.now (clear) [] c.write_line.ensures.promised; reported = c.write_line.ensures.reported }
