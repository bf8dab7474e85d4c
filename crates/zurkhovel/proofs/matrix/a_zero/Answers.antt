-- `zurkhovel::matrix::a_zero` keeps its promise. Assumes nothing.
use Rattle.refusal.proofs.Laws.{clear_of, refusal_of, is_refusal}
use mathlib.Core.Path.{refl}
use Rattle.refusal.specs.document.Table.{Clear, kept, left}
use Rattle.limits.specs.document.Limits.{a_size}
use Rattle.zurkhovel.specs.document.InEdition.{edge_table}
use Rattle.zurkhovel.specs.Accepted.{table_of}
use Rattle.zurkhovel.proofs.matrix.a_zero.Goals as goal

pub returns-in_err-edges : goal.returns-in_err-edges
returns-in_err-edges c = rw (is_refusal c.from_residual.result c.from_residual.ensures.1) (left (refusal_of c.in_err-edges.ensures) refl)

pub a_zero-requires : goal.a_zero-requires
a_zero-requires c = let clear : Clear (edge_table c.args.edition a_size c.args.n c.args.edges.now 1) = clear_of c.in_ok-edges.ensures in
    table_of (clear)

pub returns : goal.returns
returns c = let clear : Clear (edge_table c.args.edition a_size c.args.n c.args.edges.now 1) = clear_of c.in_ok-edges.ensures in
    kept (clear) c.a_zero.ensures
