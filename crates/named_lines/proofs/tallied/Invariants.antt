-- `named_lines::tallied` meets its contract: the loop keeps how often the byte stood in what is passed. Assumes nothing.
use mathlib.Core.Path.{◌≡◌}
use Prim.Native.Nat.{◌≤◌}
use lib.ListN.{take}
use Rattle.texts.specs.document.Parts.{tally}
use Rattle.named_lines.proofs.tallied.Given as goal

abbrev pub invariant-loop-b : goal.invariant-loop-b
invariant-loop-b l = (l.n ≤ l.b-index) × (l.n ≡ tally l.a (take l.b-index l.t))
