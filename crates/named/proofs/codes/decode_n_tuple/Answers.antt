-- `named::codes::decode_n_tuple` keeps its promise. Assumes nothing.
use Rattle.refusal.proofs.Laws.{clear_of, refusal_of, is_refusal}
use mathlib.Core.Path.{refl}
use Rattle.refusal.specs.Laws.{clear_left}
use Rattle.refusal.specs.Both.{both_first}
use Rattle.limits.specs.document.Limits.{size, valence}
use Rattle.lettered_check.specs.document.Lettered.{lettered_code_rows}
use Rattle.named.specs.Accepted.{whole_of}
use Rattle.named.proofs.Decoding.{decoded}
use Rattle.named.proofs.codes.decode_n_tuple.Goals as goal

pub returns-in_err-check_n_tuple : goal.returns-in_err-check_n_tuple
returns-in_err-check_n_tuple c = rw (is_refusal c.from_residual.result c.from_residual.ensures.1) (both_first (refusal_of c.in_err-check_n_tuple.ensures) refl)

pub lay-requires : goal.lay-requires
lay-requires c = whole_of c.args.code.now c.args.letters.now (clear_left (lettered_code_rows size valence c.args.code.now c.args.letters.now) _ (clear_of c.in_ok-check_n_tuple.ensures))

pub returns : goal.returns
returns c = let k = clear_of c.in_ok-check_n_tuple.ensures in
    decoded c.args.code.now c.args.letters.now (whole_of c.args.code.now c.args.letters.now (clear_left (lettered_code_rows size valence c.args.code.now c.args.letters.now) _ k)) k c.lay.ensures
