-- `lettered_check::marks` meets its contract. Assumes nothing.
use Rattle.laws.specs.Tells.{was_held, was_denied}
use Rattle.lettered_check.specs.Rows.{all-low, is_high, is_kept}
use Rattle.lettered_check.proofs.marks.Goals as goal

pub returns-then-not-low : goal.returns-then-not-low
returns-then-not-low c = let s = c.args in is_high (λ k. was_denied c.low.ensures c.if-not-low.true (all-low s.ds.now k))

pub mark-requires : goal.mark-requires
mark-requires c = record { letters_len = c.requires.letters_len; ds_in_bounds = c.requires.ds_in_bounds; each = was_held c.low.ensures c.if-not-low.false }

pub returns-then-mark : goal.returns-then-mark
returns-then-mark c = is_kept c.mark.ensures.out_after (was_held c.mark.ensures.tells c.if-mark.true)
