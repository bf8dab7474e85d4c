-- `form_coder::n_tuple_marks` meets its contract: the loop keeps the largest code of those passed. Assumes nothing.
use mathlib.Core.List.{List}
use Prim.Native.Nat.{ℕ}
use Rattle.skeleton.specs.document.Label.{rootedₗ}
use Rattle.skeleton.specs.document.Atom.{Atom}
use Rattle.skeleton.specs.document.AtomMarks.{atoms}
use Rattle.letters.specs.Named.{Named}
use Rattle.form_coder.proofs.Largest.{Best}
use Rattle.form_coder.proofs.Looked.{coding, Summed}
use Rattle.form_coder.proofs.n_tuple_marks.Given as goal

-- the search for the largest code, and the pairs looked at for it, where the atoms are these
abbrev Search : (ℕ → Atom) → ℕ → List ℕ → ℕ → List ℕ → List ℕ → List ℕ → ℕ → ℕ → Type 0
Search label n E d best other o x v = Best n E (rootedₗ atoms label n E) d best other o v × Summed E (coding label n E) d v x

abbrev pub invariant-loop-v : goal.invariant-loop-v
invariant-loop-v l = (label : ℕ → Atom) → Named l.n label l.atoms → Search label l.n l.edges l.d l.best l.other l.order l.looked l.v
