-- `zurkhovel::codes::centred_code` keeps its promise. Assumes nothing.
use Rattle.refusal.proofs.Giving.{reported_exit, reported_short}
use Rattle.refusal.proofs.Laws.{clear_of, refusal_of, room_of}
use mathlib.Core.Path.{refl}
use Rattle.refusal.specs.document.Table.{Clear}
use Rattle.refusal.specs.Giving.{refused-first}
use Rattle.limits.specs.document.Limits.{size}
use Rattle.zurkhovel.specs.document.InEdition.{edge_table}
use Rattle.form.specs.document.Form.{IsCentred}
use Rattle.form.specs.Forms.{centred-form}
use Rattle.zurkhovel.specs.Accepted.{table_of}
use Rattle.zurkhovel.proofs.Coded.{form-short, form-given}
use Rattle.zurkhovel.proofs.codes.centred_code.Goals as goal

pub returns-in_err-edges : goal.returns-in_err-edges
returns-in_err-edges c = reported_exit _ c.from_residual.result c.from_residual.ensures.1 (refused-first (refusal_of c.in_err-edges.ensures) refl)

pub returns-in_err-fits : goal.returns-in_err-fits
returns-in_err-fits c = let clear : Clear (edge_table c.args.edition size c.args.n c.args.edges.now 1) = clear_of c.in_ok-edges.ensures in
    reported_short c.from_residual-in_err-fits.result c.from_residual-in_err-fits.ensures.1 c.in_err-fits.ensures (λ l. form-short c.args.n c.args.edges.now 1 (clear) IsCentred centred-form l refl)

pub centred-pairs-requires : goal.centred-pairs-requires
centred-pairs-requires c = let clear : Clear (edge_table c.args.edition size c.args.n c.args.edges.now 1) = clear_of c.in_ok-edges.ensures in record { skeleton = table_of (clear); n_in_bounds = (room_of c.in_ok-fits.ensures) }

pub returns : goal.returns
returns c = let clear : Clear (edge_table c.args.edition size c.args.n c.args.edges.now 1) = clear_of c.in_ok-edges.ensures in
    record { promised = form-given c.args.n c.args.edges.now 1 (clear) IsCentred centred-form (room_of c.in_ok-fits.ensures) c.centred-pairs.ensures.writes; reported = c.centred-pairs.ensures.centred_pairs }
