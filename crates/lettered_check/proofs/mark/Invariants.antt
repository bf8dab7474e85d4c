-- `lettered_check::mark` meets its contract: the loop keeps that the marks of the digits passed are written, and how these stand to their letters' limits. Assumes nothing.
use mathlib.Core.Path.{◌≡◌}
use mathlib.Core.Bool.{Bool, true, false}
use mathlib.Core.List.{List, [], ◌∷◌}
use Prim.Native.Nat.{ℕ, ◌+◌, ◌<◌}
use Rattle.laws.specs.Laying.{Mapped}
use Rattle.refusal.specs.document.Table.{Clear}
use Rattle.skeleton.specs.document.Label.{row20}
use Rattle.skeleton.specs.document.Atom.{bonds}
use Rattle.skeleton.specs.document.AtomMarks.{atoms}
use Rattle.lettered_check.specs.document.Lettered.{marks_of}
use Rattle.lettered_check.proofs.mark.Given as goal

-- how the digits before i stand to their letters' limits
abbrev SoFar : List ℕ → Bool → ℕ → Type 0
SoFar ms kept i = (kept ≡ true → (p : ℕ) → p < i + 1 → (row20 atoms bonds ms).applies p → ⊥) × (kept ≡ false → Clear (row20 atoms bonds ms ∷ []) → ⊥)

abbrev pub invariant-loop-i : goal.invariant-loop-i
invariant-loop-i l = Mapped (λ m. m) (marks_of l.ds l.letters) l.initial.out l.out l.i × SoFar (marks_of l.ds l.letters) l.kept l.i
