-- A vertex's subtree code is the part of the code that begins at its mark. Assumes nothing.
use mathlib.Core.Path.{◌≡◌, ap, ◌∙◌}
use mathlib.Core.List.{List, []}
use Prim.Native.Nat.{ℕ, suc, ◌-◌}
use native.Mathlib.Omega.{arith}
use lib.ListN.{length, get_or, drop}
use Rattle.laws.specs.Part.{part, part_length}
use Rattle.digit_code.specs.document.Code.{codes}
use Rattle.digit_code.specs.Parts.{Ending}
use Rattle.skeleton.specs.document.AtomMarks.{atoms}
use Rattle.orbits.specs.Parents.{subtreeₗ}

module _ {c : List ℕ} {i e : ℕ} (k : Ending atoms.arity c i e) where
  pub subtree_part : subtreeₗ atoms c (suc i) ≡ part i e c
  subtree_part =
      let n : suc i - 1 ≡ i = omega arith in
      ap (λ (x : ℕ). get_or (codes atoms.arity (drop x c)) 0 []) n ∙ ap (λ (x : List (List ℕ)). get_or x 0 []) k.part

  pub subtree_long : length (subtreeₗ atoms c (suc i)) ≡ e - i
  subtree_long = ap length subtree_part ∙ part_length i e c k.within
