-- `lettered_check::bonded` meets its contract: the loop keeps that row 20 applies to no mark passed. Assumes nothing.
use Prim.Native.Nat.{ℕ, ◌<◌}
use Rattle.skeleton.specs.document.Label.{row20}
use Rattle.skeleton.specs.document.Atom.{bonds}
use Rattle.skeleton.specs.document.AtomMarks.{atoms}
use Rattle.lettered_check.proofs.bonded.Given as goal

abbrev pub invariant-loop-p : goal.invariant-loop-p
invariant-loop-p l = (q : ℕ) → q < l.p → (row20 atoms bonds l.code).applies q → ⊥
