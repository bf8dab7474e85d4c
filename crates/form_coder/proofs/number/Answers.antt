-- `form_coder::number` meets its contract. Assumes nothing.
use mathlib.Core.Path.{◌≡◌}
use native.Mathlib.Omega.{arith}
use lib.ListN.{get_or, take}
use lib.Seq.{get_or-take}
use Rattle.form_coder.proofs.Places.{counted-more}
use Rattle.form_coder.proofs.number.Goals as goal

pub loop-i-preserved : goal.loop-i-preserved
loop-i-preserved c = let (few, long, once, room) = c.requires in
    let e : get_or (take c.args.n c.args.order.now) c.loop-i.i 0 ≡ get_or c.args.order.now c.loop-i.i 0 = get_or-take c.args.n c.args.order.now c.loop-i.i 0 (omega arith) in
    rw (c.put.ensures.0, e) (counted-more _ _ (omega arith) once c.loop-i.invariant (omega arith) (rw e at c.put.ensures.1))
