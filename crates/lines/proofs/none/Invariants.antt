-- `lines::none` meets its contract: while it says so, no byte passed is k. Assumes nothing.
use mathlib.Core.Path.{◌≡◌}
use mathlib.Core.Bool.{true}
use Rattle.texts.specs.document.Bytes.{Other}
use Rattle.laws.specs.Each.{Passed}
use Rattle.lines.proofs.none.Given as goal

abbrev pub invariant-loop-b : goal.invariant-loop-b
invariant-loop-b l = l.free ≡ true → Passed (Other l.k) l.t l.b-index
