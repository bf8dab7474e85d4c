-- `bits::number_code` meets its contract: row 3, row 4, then rows 10 to 12, then 13. Assumes nothing.
use mathlib.Core.List.{[], ◌∷◌}
use Prim.Native.Nat.{◌-◌, ◌*◌}
use Rattle.refusal.specs.document.Table.{Clear, row3}
use Rattle.refusal.specs.Laws.{clear_both, at_least, at_most}
use Rattle.refusal.proofs.Laws.{clear_of, refusal_of, is_refusal, refusal_back}
use Rattle.limits.specs.document.Limits.{whole_size}
use Rattle.bits.specs.document.Bits.{Nothing, word, row4_whole, bit_rows}
use Rattle.bits.specs.Decided.{reading_ended, decide_front, decide_ordered}
use Rattle.bits.proofs.number_code.Goals as goal

pub returns-in_err-sized : goal.returns-in_err-sized
returns-in_err-sized c = let a = c.args in rw (is_refusal c.from_residual.result c.from_residual.ensures.1) (decide_front (row4_whole a.n a.x ∷ bit_rows a.limit Nothing (word (2 * a.n - 1) a.x)) (refusal_of c.in_err-sized.ensures) c.requires.out_len)

pub ranged-requires : goal.ranged-requires
ranged-requires c = let sizes : Clear (row3 whole_size c.args.n ∷ []) = clear_of c.in_ok-sized.ensures in
    (at_least (sizes), at_most (sizes))

pub returns-in_err-ranged : goal.returns-in_err-ranged
returns-in_err-ranged c = let sizes : Clear (row3 whole_size c.args.n ∷ []) = clear_of c.in_ok-sized.ensures in
    let a = c.args in rw (is_refusal c.from_residual-in_err-ranged.result c.from_residual-in_err-ranged.ensures.1) (decide_front (bit_rows a.limit Nothing (word (2 * a.n - 1) a.x)) (refusal_back (sizes) (refusal_of c.in_err-ranged.ensures)) c.requires.out_len)

pub number-requires : goal.number-requires
number-requires c = let sizes : Clear (row3 whole_size c.args.n ∷ []) = clear_of c.in_ok-sized.ensures in
    let s = sizes in record { le_limit = c.requires.le_limit; le_n = (at_least s, (at_most s, c.requires.out_len)) }

pub siblings-requires : goal.siblings-requires
siblings-requires c = let s = c.number.ensures in record { ended = reading_ended s; digits_len = s.long }

pub returns : goal.returns
returns c = let sizes : Clear (row3 whole_size c.args.n ∷ []) = clear_of c.in_ok-sized.ensures in
    let clear : let a = c.args in Clear (row3 whole_size a.n ∷ row4_whole a.n a.x ∷ []) = clear_both (sizes) (clear_of c.in_ok-ranged.ensures) in
    decide_ordered (clear) c.number.ensures c.siblings.ensures
