-- `lines::extent` meets its contract. Assumes nothing.
use native.Mathlib.Omega.{arith}
use lib.ListN.{length}
use Rattle.lines.specs.Plain.{length_line}
use Rattle.texts.specs.Numerals.{length_short, length_long}
use Rattle.lines.proofs.extent.Goals as goal

pub returns-then-n-lt10 : goal.returns-then-n-lt10
returns-then-n-lt10 c d e = omega (arith, length_line d, length_short (length d) (omega arith))

pub returns : goal.returns
returns c d e = omega (arith, length_line d, length_long (length d) (omega arith))
