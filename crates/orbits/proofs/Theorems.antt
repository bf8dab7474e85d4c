-- Document 02, wish 3, as theorems: the vertices of a skeleton, in the numbering of its centred code, have classes by the renumberings onto itself, numbered by first
-- appearance, and have them in one way. Here stands what rests on `Testₗ`; the rest is in `specs.Theorems`. Assumes nothing.
use Rattle.std.specs.Prelude.{List, ℕ}
use Rattle.std.proofs.Common.{subst}
use Rattle.skeleton.specs.document.Skeleton.{IsTree}
use Rattle.skeleton.specs.document.Label.{Marks, digits}
use Rattle.skeleton.specs.General.{decode-code}
use Rattle.skeleton.specs.document.AtomMarks.{atoms}
use Rattle.skeleton.specs.Carbon.{carbon}
use Rattle.form.specs.document.Form.{IsCentred}
use Rattle.form.specs.document.Labelled.{IsCentredₗ}
use Rattle.form.specs.Labelled.{centred_formₗ, is_rootedₗ, form_againₗ}
use Rattle.form.specs.Forms.{centred-form, form_again, form_ends}
use Rattle.form.specs.Rewritten.{centred-carbon}
use Rattle.orbits.specs.document.Carried.{ClassesOf, ClassesOfₗ}
use Rattle.orbits.specs.Classes.{classesₗ, classes}
use Rattle.orbits.proofs.Classes.{classes_rightₗ, classes_right}
use Rattle.orbits.specs.Theorems.{classes-carbon}

-- The classes that are told from vertex to vertex of the centred code are these.
pub classes_of : (N : ℕ) (F c : List ℕ) → IsTree N F → IsCentred N F c → ClassesOf c (classes c)
classes_of N F c t z = classes_right c (form_ends IsCentred centred-form N F c t z) (form_again IsCentred centred-form N F c t z)

-- So are those of a skeleton with labels, by the renumberings that keep them.
pub classes_ofₗ : (M : Marks) (N : ℕ) (F : List ℕ) (l : ℕ → M.Label) (c : List ℕ) → IsTree N F → IsCentredₗ M N F l c → ClassesOfₗ M c (classesₗ M (digits M c) c)
classes_ofₗ M N F l c t z =
    classes_rightₗ M c ((decode-code M c).0 (is_rootedₗ M (IsCentredₗ M) (centred_formₗ M) N F l c t z)).0 (form_againₗ M (IsCentredₗ M) (centred_formₗ M) N F l c t z)

-- So they are told on its marks.
pub carbon-classes : (N : ℕ) (F c : List ℕ) → IsTree N F → IsCentredₗ atoms N F carbon c → (d : List ℕ) × IsCentred N F d × ClassesOf d (classesₗ atoms (digits atoms c) c)
carbon-classes N F c t z =
    let l : List ℕ = classesₗ atoms (digits atoms c) c in
    let (d, e, x) = (centred-carbon N F c).0 z in
    (d, x, (classes-carbon d l).0 (subst (λ m. ClassesOfₗ atoms m l) e (classes_ofₗ atoms N F carbon c t z)))
