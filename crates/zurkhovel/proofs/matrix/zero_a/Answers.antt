-- `zurkhovel::matrix::zero_a` keeps its promise. Assumes nothing.
use Rattle.refusal.proofs.Laws.{clear_of, refusal_of, is_refusal}
use mathlib.Core.Path.{refl}
use Rattle.refusal.specs.document.Table.{Clear, kept, left}
use Rattle.limits.specs.document.Limits.{zero_size}
use Rattle.zurkhovel.specs.document.InEdition.{edge_table, physical_table}
use Rattle.zurkhovel.specs.RoundMatrix.{physical_exactly}
use Rattle.edge_list.specs.Tables.{in_rows}
use Rattle.edition.specs.Laws.{at_most_nine}
use Rattle.zurkhovel.proofs.matrix.zero_a.Goals as goal

pub returns-in_err-check : goal.returns-in_err-check
returns-in_err-check c = rw (is_refusal c.from_residual.result c.from_residual.ensures.1) (left (refusal_of c.in_err-check.ensures) refl)

pub zero_of-requires : goal.zero_of-requires
zero_of-requires c = let clear : Clear (physical_table (edge_table c.args.edition) zero_size c.args.n c.args.edges.now) = clear_of c.in_ok-check.ensures in
    let (i, s, p) = (physical_exactly _ _ _ _).0 (clear) in (in_rows (at_most_nine _) s, p)

pub returns : goal.returns
returns c = let clear : Clear (physical_table (edge_table c.args.edition) zero_size c.args.n c.args.edges.now) = clear_of c.in_ok-check.ensures in
    kept (clear) c.zero_of.ensures
