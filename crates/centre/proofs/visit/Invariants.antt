-- `centre::visit` meets its contract. The loop's invariant: the first of the row are found. Assumes nothing.
use mathlib.Core.List.{List}
use Prim.Native.Nat.{ℕ}
use Rattle.centre.specs.Walking.{Ground, Next}
use Rattle.centre.proofs.Visits.{Part}
use Rattle.centre.proofs.visit.Given as goal

abbrev pub invariant-loop-w : goal.invariant-loop-w
invariant-loop-w l = (N s h : ℕ) (E : List ℕ) (g : Ground N E s) → Next g l.row l.initial.o l.initial.up l.v h l.e → Part g l.row l.o l.up l.v h l.b l.w-index
