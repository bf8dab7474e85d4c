-- `renumber::entries` meets its contract. The loop's invariant: 18 applies at no entry before p. Assumes nothing.
use mathlib.Core.List.{List}
use Prim.Native.Nat.{ℕ, ◌<◌}
use Rattle.skeleton.specs.document.Atom.{Atom}
use Rattle.letters.specs.Named.{Named}
use Rattle.renumber.specs.document.Kept.{row18-kept}
use Rattle.renumber.proofs.entries.Given as goal

-- it applies at none before p, whatever the atoms are
abbrev None : ℕ → List ℕ → List ℕ → List ℕ → ℕ → Type 0
None n a b map p = (l k : ℕ → Atom) → Named n l a → Named n k b → (q : ℕ) → q < p → (row18-kept l k n map).applies q → ⊥

abbrev pub invariant-loop-p : goal.invariant-loop-p
invariant-loop-p l = None l.n l.atoms1 l.atoms2 l.map l.p
