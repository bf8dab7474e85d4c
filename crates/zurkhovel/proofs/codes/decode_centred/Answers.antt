-- `zurkhovel::codes::decode_centred` keeps its promise. Assumes nothing.
use Rattle.refusal.proofs.Laws.{clear_of, refusal_of, is_refusal}
use mathlib.Core.Path.{refl}
use Rattle.refusal.specs.Giving.{refused-first}
use Rattle.form.specs.document.Form.{IsCentred}
use Rattle.refusal.proofs.Behind.{behind-same}
use Rattle.zurkhovel.proofs.Decoded.{right_of}
use Rattle.zurkhovel.proofs.codes.decode_centred.Goals as goal

pub returns-in_err-centred : goal.returns-in_err-centred
returns-in_err-centred c = rw (is_refusal c.from_residual.result c.from_residual.ensures.1) (refused-first (refusal_of c.in_err-centred.ensures) refl)

pub lay_edges-requires : goal.lay_edges-requires
lay_edges-requires c = right_of IsCentred c.args.code.now (clear_of c.in_ok-centred.ensures)

pub returns : goal.returns
returns c = behind-same (clear_of c.in_ok-centred.ensures) c.lay_edges.ensures
