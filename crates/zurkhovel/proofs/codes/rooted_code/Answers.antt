-- `zurkhovel::codes::rooted_code` keeps its promise. Assumes nothing.
use Rattle.refusal.proofs.Giving.{reported_exit, reported_short}
use Rattle.refusal.proofs.Laws.{clear_of, refusal_of, room_of}
use mathlib.Core.Path.{refl}
use Rattle.refusal.specs.document.Table.{Clear}
use Rattle.refusal.specs.Giving.{refused-first}
use Rattle.limits.specs.document.Limits.{size}
use Rattle.zurkhovel.specs.document.InEdition.{edge_table}
use Rattle.zurkhovel.specs.Accepted.{root_of, table_of}
use Rattle.zurkhovel.proofs.Coded.{rooted-short, rooted-given}
use Rattle.zurkhovel.proofs.codes.rooted_code.Goals as goal

pub returns-in_err-edges : goal.returns-in_err-edges
returns-in_err-edges c = reported_exit _ c.from_residual.result c.from_residual.ensures.1 (refused-first (refusal_of c.in_err-edges.ensures) refl)

pub returns-in_err-fits : goal.returns-in_err-fits
returns-in_err-fits c = let clear : Clear (edge_table c.args.edition size c.args.n c.args.edges.now c.args.root) = clear_of c.in_ok-edges.ensures in
    reported_short c.from_residual-in_err-fits.result c.from_residual-in_err-fits.ensures.1 c.in_err-fits.ensures (λ l. rooted-short c.args.n c.args.edges.now c.args.root (clear) l refl)

pub rooted-pairs-requires : goal.rooted-pairs-requires
rooted-pairs-requires c = let clear : Clear (edge_table c.args.edition size c.args.n c.args.edges.now c.args.root) = clear_of c.in_ok-edges.ensures in record { skeleton = table_of (clear); le_root = ((root_of c.args.edges.now (clear)).0, (root_of c.args.edges.now (clear)).1, (room_of c.in_ok-fits.ensures)) }

pub returns : goal.returns
returns c = let clear : Clear (edge_table c.args.edition size c.args.n c.args.edges.now c.args.root) = clear_of c.in_ok-edges.ensures in
    record { promised = rooted-given c.args.n c.args.edges.now c.args.root (clear) (room_of c.in_ok-fits.ensures) c.rooted-pairs.ensures.writes; reported = c.rooted-pairs.ensures.value }
