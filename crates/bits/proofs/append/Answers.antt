-- `bits::append` meets its contract: `appends`. Assumes nothing.
use Rattle.bits.specs.Writing.{appends}
use Rattle.bits.proofs.append.Goals as goal

pub overflow_sub-result : goal.overflow_sub-result
overflow_sub-result c = let t = appends c.requires in rw t.ones t.two

pub overflow_add-result-3 : goal.overflow_add-result-3
overflow_add-result-3 c = let t = appends c.requires in rw (t.left, t.ones) (record { fits = t.fits })

pub returns : goal.returns
returns c = let t = appends c.requires in rw (t.left, t.ones)
