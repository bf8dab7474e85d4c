-- `named::codes::decode_code` keeps its promise. Assumes nothing.
use Rattle.refusal.proofs.Laws.{clear_of, refusal_of, is_refusal}
use mathlib.Core.Path.{refl}
use Rattle.refusal.specs.Both.{both_first}
use Rattle.named.specs.Accepted.{whole_of}
use Rattle.named.proofs.Decoding.{decoded}
use Rattle.named.proofs.codes.decode_code.Goals as goal

pub returns-in_err-check_code : goal.returns-in_err-check_code
returns-in_err-check_code c = rw (is_refusal c.from_residual.result c.from_residual.ensures.1) (both_first (refusal_of c.in_err-check_code.ensures) refl)

pub lay-requires : goal.lay-requires
lay-requires c = whole_of c.args.code.now c.args.letters.now (clear_of c.in_ok-check_code.ensures)

pub returns : goal.returns
returns c = let k = clear_of c.in_ok-check_code.ensures in
    decoded c.args.code.now c.args.letters.now (whole_of c.args.code.now c.args.letters.now k) k c.lay.ensures
