-- `zurkhovel::text::write_line` keeps its promise. Assumes nothing.
use Rattle.refusal.proofs.Giving.{reported_exit, reported_short}
use Rattle.refusal.proofs.Laws.{clear_of, refusal_of, room_of}
use mathlib.Core.Path.{refl}
use native.Mathlib.Omega.{arith}
use Rattle.refusal.specs.document.Table.{Clear}
use Rattle.refusal.specs.Laws.{at_most, others}
use Rattle.refusal.specs.Giving.{refused-first, written_length}
use Rattle.limits.specs.document.Limits.{size}
use Rattle.zurkhovel.specs.document.InEdition.{edge_table}
use Rattle.lines.specs.document.Line.{line}
use Rattle.zurkhovel.specs.Accepted.{skeleton_of, table_of}
use Rattle.zurkhovel.proofs.Derived.{code-digits, derived_size, derived_short, derived_given}
use Rattle.edition.specs.Laws.{at_most_nine}
use Rattle.zurkhovel.proofs.text.write_line.Goals as goal

pub returns-in_err-edges : goal.returns-in_err-edges
returns-in_err-edges c = reported_exit _ c.from_residual.result c.from_residual.ensures.1 (refused-first (refusal_of c.in_err-edges.ensures) refl)

pub extent-need-requires : goal.extent-need-requires
extent-need-requires c = let clear : Clear (edge_table c.args.edition size c.args.n c.args.edges.now 1) = clear_of c.in_ok-edges.ensures in
    omega (arith, at_most (others (clear)))

pub returns-in_err-fits : goal.returns-in_err-fits
returns-in_err-fits c = let clear : Clear (edge_table c.args.edition size c.args.n c.args.edges.now 1) = clear_of c.in_ok-edges.ensures in
    reported_short c.from_residual-in_err-fits.result c.from_residual-in_err-fits.ensures.1 c.in_err-fits.ensures (λ l. derived_short c.args.n c.args.edges.now (clear) line c.extent-need.result c.extent-need.ensures l refl)

pub centred-pairs-requires : goal.centred-pairs-requires
centred-pairs-requires c = let clear : Clear (edge_table c.args.edition size c.args.n c.args.edges.now 1) = clear_of c.in_ok-edges.ensures in record { skeleton = table_of (clear); n_in_bounds = omega (arith, at_most (others (clear))) }

pub slice_bounds-digits-end : goal.slice_bounds-digits-end
slice_bounds-digits-end c = let clear : Clear (edge_table c.args.edition size c.args.n c.args.edges.now 1) = clear_of c.in_ok-edges.ensures in
    omega (arith, at_most (others (clear)))

pub slice_bounds-write-end : goal.slice_bounds-write-end
slice_bounds-write-end c = written_length c.centred-pairs.ensures.writes

pub write-requires : goal.write-requires
write-requires c = let clear : Clear (edge_table c.args.edition size c.args.n c.args.edges.now 1) = clear_of c.in_ok-edges.ensures in record { few = omega (arith, written_length c.centred-pairs.ensures.writes, at_most (others (clear))); digits = (code-digits (skeleton_of (clear)) c.centred-pairs.ensures.writes (at_most_nine _)).digits; room = omega (arith, derived_size c.args.n c.args.edges.now (clear) line c.extent-need.result c.extent-need.ensures c.centred-pairs.ensures.writes, (room_of c.in_ok-fits.ensures)) }

pub returns : goal.returns
returns c = let clear : Clear (edge_table c.args.edition size c.args.n c.args.edges.now 1) = clear_of c.in_ok-edges.ensures in
    record { promised = derived_given c.args.n c.args.edges.now (clear) line c.extent-need.result c.extent-need.ensures (room_of c.in_ok-fits.ensures) c.centred-pairs.ensures.writes c.write.ensures; reported = c.centred-pairs.ensures.centred_pairs }
