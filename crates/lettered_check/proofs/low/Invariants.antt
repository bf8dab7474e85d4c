-- `lettered_check::low` meets its contract. The loop's invariant: it says so only of what is passed, and denies it only of all. Assumes nothing.
use mathlib.Core.Path.{◌≡◌}
use mathlib.Core.Bool.{true, false}
use Rattle.laws.specs.document.Each.{Each}
use Rattle.laws.specs.Each.{Passed}
use Rattle.lettered_check.specs.Rows.{Low}
use Rattle.lettered_check.proofs.low.Given as goal

abbrev pub invariant-loop-k : goal.invariant-loop-k
invariant-loop-k l = (l.all ≡ true → Passed Low l.ds l.k-index) × (l.all ≡ false → Each Low l.ds → ⊥)
