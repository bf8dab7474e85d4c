-- `fraction::read` meets its contract. Assumes nothing.
use Rattle.fraction.proofs.read.Goals as goal

pub returns : goal.returns
returns c = let d = c.draw-d.ensures in rw (d.first, d.others) at c.fraction.ensures
