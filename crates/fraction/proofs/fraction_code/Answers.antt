-- `fraction::fraction_code` meets its contract: row 4, then rows 10 to 12, then 13. Assumes nothing.
use Rattle.refusal.proofs.Laws.{clear_of, refusal_of, is_refusal}
use mathlib.Core.Path.{refl}
use mathlib.Core.List.{[], ◌∷◌}
use Rattle.refusal.specs.document.Table.{Clear}
use Rattle.refusal.specs.Laws.{never}
use Rattle.bits.specs.document.Bits.{Zeros, bit_rows}
use Rattle.bits.specs.Decided.{reading_ended, decide_front, decide_ordered}
use Rattle.fraction.specs.document.Fraction.{row4_fraction, bits_of}
use Rattle.fraction.proofs.fraction_code.Goals as goal

pub returns-in_err-ranged : goal.returns-in_err-ranged
returns-in_err-ranged c = let a = c.args in
    rw (is_refusal c.from_residual.result c.from_residual.ensures.1) (decide_front (bit_rows a.limit Zeros (bits_of a.x)) (refusal_of c.in_err-ranged.ensures) c.requires.out_len)

pub read-requires : goal.read-requires
read-requires c = let clear : Clear (row4_fraction c.args.x ∷ []) = clear_of c.in_ok-ranged.ensures in record { le_limit = c.requires.le_limit; fact = (λ o. never (clear) 0 (refl, o)); out_len = c.requires.out_len }

pub siblings-requires : goal.siblings-requires
siblings-requires c = let s = c.read.ensures in record { ended = reading_ended s; digits_len = s.long }

pub returns : goal.returns
returns c = let clear : Clear (row4_fraction c.args.x ∷ []) = clear_of c.in_ok-ranged.ensures in
    decide_ordered (clear) c.read.ensures c.siblings.ensures
