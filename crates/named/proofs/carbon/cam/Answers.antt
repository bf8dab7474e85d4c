-- `named::carbon::cam` keeps its promise. Assumes nothing.
use Rattle.refusal.proofs.Laws.{clear_of, refusal_of, is_refusal}
use mathlib.Core.Path.{refl}
use mathlib.Core.List.{[], ◌∷◌}
use Rattle.refusal.specs.document.Table.{Clear}
use Rattle.refusal.specs.Laws.{refusal_front}
use Rattle.refusal.specs.Giving.{refused-first}
use Rattle.limits.specs.document.Limits.{size, valence}
use Rattle.adjacency.specs.document.Adjacency.{row14_physical}
use Rattle.edge_list.specs.document.Letters.{carbon_rows}
use Rattle.named.specs.Carbon.{gives_carbon}
use Rattle.named.proofs.carbon.cam.Goals as goal

pub returns-in_err-check_carbon : goal.returns-in_err-check_carbon
returns-in_err-check_carbon c = rw (is_refusal c.from_residual.result c.from_residual.ensures.1) (refused-first (refusal_front _ (refusal_of c.in_err-check_carbon.ensures)) refl)

pub returns : goal.returns
returns c = let clear : Clear (carbon_rows size valence c.args.n c.args.edges.now 1 c.args.letters.now) = clear_of c.in_ok-check_carbon.ensures in
    gives_carbon c.args.n c.args.edges.now 1 c.args.letters.now (clear) (row14_physical c.args.n c.args.edges.now ∷ []) c.cam.ensures
