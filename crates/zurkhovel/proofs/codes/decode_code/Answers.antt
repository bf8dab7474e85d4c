-- `zurkhovel::codes::decode_code` keeps its promise. Assumes nothing.
use Rattle.refusal.proofs.Laws.{clear_of, refusal_of, is_refusal}
use mathlib.Core.Path.{refl}
use Rattle.refusal.specs.Giving.{refused-first}
use Rattle.refusal.proofs.Behind.{behind-same}
use Rattle.zurkhovel.proofs.Decoded.{whole_of}
use Rattle.zurkhovel.proofs.codes.decode_code.Goals as goal

pub returns-in_err-code : goal.returns-in_err-code
returns-in_err-code c = rw (is_refusal c.from_residual.result c.from_residual.ensures.1) (refused-first (refusal_of c.in_err-code.ensures) refl)

pub lay_edges-requires : goal.lay_edges-requires
lay_edges-requires c = whole_of c.args.code.now (clear_of c.in_ok-code.ensures)

pub returns : goal.returns
returns c = behind-same (clear_of c.in_ok-code.ensures) c.lay_edges.ensures
