-- `bits::packed_code` meets its contract: row 3, then rows 10 to 12, then 13. Assumes nothing.
use Rattle.refusal.proofs.Laws.{clear_of, refusal_of, is_refusal}
use mathlib.Core.List.{[], ◌∷◌}
use lib.ListN.{length}
use Rattle.refusal.specs.document.Table.{Clear, row3}
use Rattle.refusal.specs.Laws.{at_most}
use Rattle.limits.specs.document.Limits.{packed_bytes}
use Rattle.bits.specs.document.Bits.{Fill, bytes, bit_rows}
use Rattle.bits.specs.Decided.{reading_ended, decide_front, decide_ordered}
use Rattle.bits.proofs.packed_code.Goals as goal

pub returns-in_err-sized : goal.returns-in_err-sized
returns-in_err-sized c = let a = c.args in rw (is_refusal c.from_residual.result c.from_residual.ensures.1) (decide_front (bit_rows a.limit Fill (bytes a.s.now)) (refusal_of c.in_err-sized.ensures) c.requires.out_len)

pub packed-requires : goal.packed-requires
packed-requires c = let clear : Clear (row3 packed_bytes (length c.args.s.now) ∷ []) = clear_of c.in_ok-sized.ensures in record { le_limit = c.requires.le_limit; s_len_bound = (at_most (clear), c.requires.out_len) }

pub siblings-requires : goal.siblings-requires
siblings-requires c = let s = c.packed.ensures in record { ended = reading_ended s; digits_len = s.long }

pub returns : goal.returns
returns c = let clear : Clear (row3 packed_bytes (length c.args.s.now) ∷ []) = clear_of c.in_ok-sized.ensures in
    decide_ordered (clear) c.packed.ensures c.siblings.ensures
