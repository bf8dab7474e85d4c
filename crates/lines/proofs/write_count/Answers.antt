-- `lines::write_count` meets its contract. Assumes nothing.
use native.Mathlib.Omega.{arith}
use lib.ListN.{length-set}
use Rattle.texts.specs.Numerals.{length_short, length_long}
use Rattle.lines.proofs.Writing.{one_written, two-written}
use Rattle.lines.proofs.write_count.Goals as goal

pub bounds-out-0 : goal.bounds-out-0
bounds-out-0 c = omega (arith, length_short c.args.n (omega arith))

pub returns-then-n-lt10 : goal.returns-then-n-lt10
returns-then-n-lt10 c = one_written _ _ c.requires.room (omega arith)

pub bounds-out-0-2 : goal.bounds-out-0-2
bounds-out-0-2 c = omega (arith, length_long c.args.n (omega arith))

pub bounds-out-1 : goal.bounds-out-1
bounds-out-1 c = simp length-set (omega (arith, length_long c.args.n (omega arith)))

pub returns : goal.returns
returns c = two-written _ _ c.requires.room (omega arith)
