-- `listing_text::list_lines` meets its contract: the loop keeps that the answers to the lines passed are put. Assumes nothing.
use Prim.Native.Nat.{◌-◌}
use lib.ListN.{length}
use Rattle.listing_text.specs.Steps.{lines_of_kind}
use Rattle.listing_text.proofs.Passing.{Going}
use Rattle.listing_text.proofs.list_lines.Given as goal

abbrev pub invariant-loop-at : goal.invariant-loop-at
invariant-loop-at l = Going (lines_of_kind l.kind) l.text l.from l.initial.out l.out l.w.skip l.w.done l.at l.line l.read

abbrev pub decreases-loop-at : goal.decreases-loop-at
decreases-loop-at l = length l.text - l.at
