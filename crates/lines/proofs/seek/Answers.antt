-- `lines::seek` meets its contract: the loop keeps that no byte passed is k. Assumes nothing.
use mathlib.Core.Path.{◌≡◌}
use native.Mathlib.Omega.{arith}
use lib.ListN.{length}
use Rattle.lines.proofs.seek.Goals as goal

pub returns : goal.returns
returns c =
    let e : c.loop-i.i ≡ length c.args.t.now = omega arith in
    record { within = omega arith; free = let f = c.loop-i.invariant.each in rw e at f; fed = λ l. absurd (omega arith) }
