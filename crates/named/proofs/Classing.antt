-- The classes of the centred code of an accepted edge list with letters answer for the call. Assumes nothing.
use mathlib.Core.Path.{◌≡◌}
use mathlib.Core.List.{List, []}
use Prim.Native.Nat.{ℕ}
use Rattle.refusal.specs.document.Table.{Clear, Outcome, Gives}
use Rattle.limits.specs.document.Limits.{size, valence}
use Rattle.skeleton.specs.document.Label.{digits}
use Rattle.skeleton.specs.Label.{IsRootedₗ}
use Rattle.skeleton.specs.document.Atom.{atom_at}
use Rattle.skeleton.specs.document.AtomMarks.{atoms}
use Rattle.edge_list.specs.document.Letters.{letter_rows}
use Rattle.form.specs.document.Labelled.{IsCentredₗ}
use Rattle.form.specs.Labelled.{centred_formₗ, is_rootedₗ}
use Rattle.orbits.specs.document.Carried.{ClassesOfₗ}
use Rattle.orbits.specs.Classes.{classesₗ}
use Rattle.orbits.specs.Appearance.{one-numbering}
use Rattle.orbits.proofs.Theorems.{classes_ofₗ}
use Rattle.named.specs.document.Alike.{NamedEqualVertices}
use Rattle.named.specs.Accepted.{tree_of}
use Rattle.named.proofs.Lining.{derived}

module _ (N : ℕ) (E : List ℕ) (s : List ℕ) (k : Clear (letter_rows size valence N E 1 s)) (c : List ℕ) (x : IsCentredₗ atoms N E (atom_at s) c) where
  -- the code is a rooted one, and has classes
  pub rooted-code : IsRootedₗ atoms c
  rooted-code = is_rootedₗ atoms (IsCentredₗ atoms) (centred_formₗ atoms) N E (atom_at s) c (tree_of N E 1 s k) x

  pub has_classes : ClassesOfₗ atoms c (classesₗ atoms (digits atoms c) c)
  has_classes = classes_ofₗ atoms N E (atom_at s) c (tree_of N E 1 s k) x

  pub classes-given : {old new : List ℕ} {o : Outcome ℕ} → Gives [] (λ l. l ≡ classesₗ atoms (digits atoms c) c) old new o → NamedEqualVertices N E s old new o
  classes-given g =
      derived N E s k c x {Of = ClassesOfₗ atoms} (classesₗ atoms (digits atoms c) c) has_classes (λ m h. one-numbering h has_classes) g
