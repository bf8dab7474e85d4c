-- `zurkhovel::matrix::by_code` meets its contract. Assumes nothing.
use Rattle.refusal.proofs.Laws.{clear_of, refusal_of, is_refusal}
use native.Mathlib.Omega.{arith}
use Rattle.refusal.specs.document.Table.{Clear}
use Rattle.limits.specs.document.Limits.{size}
use Rattle.zurkhovel.specs.document.InEdition.{edge_table}
use Rattle.skeleton.specs.document.Skeleton.{IsSkeleton}
use Rattle.zurkhovel.specs.Accepted.{skeleton_of, wider}
use Rattle.edge_list.specs.Tables.{in_rows}
use Rattle.edition.specs.document.Edition.{neighbours_in}
use Rattle.edition.specs.Laws.{at_most_nine}
use Rattle.zurkhovel.specs.Rooting.{coded, refused}
use Rattle.zurkhovel.proofs.Numbered.{listed_by_code}
use Rattle.zurkhovel.proofs.matrix.by_code.Goals as goal

pub returns-in_err-edges : goal.returns-in_err-edges
returns-in_err-edges c = rw (is_refusal c.from_residual.result c.from_residual.ensures.1) (refused (refusal_of c.in_err-edges.ensures))

pub by_code-requires : goal.by_code-requires
by_code-requires c = let clear : Clear (edge_table c.args.edition c.args.most c.args.n c.args.edges.now 1) = clear_of c.in_ok-edges.ensures in
    let found : IsSkeleton size (neighbours_in c.args.edition) c.args.n c.args.edges.now = wider c.requires.0 (skeleton_of (clear)) in
    let s = found in record { skeleton = in_rows (at_most_nine _) s; edges_in_bounds = omega (arith, s.tree.edges, s.few, c.requires.1) }

pub returns : goal.returns
returns c = let clear : Clear (edge_table c.args.edition c.args.most c.args.n c.args.edges.now 1) = clear_of c.in_ok-edges.ensures in
    coded (listed_by_code (clear) c.by_code.ensures.writes c.by_code.ensures.centred_pairs)
