-- Document 02, wish 3, as theorems: the vertices of a skeleton, in the numbering of its centred code, have classes by the renumberings onto itself, numbered by first
-- appearance, and have them in one way. What rests on `Testₗ` is in `proofs.Theorems`. Assumes nothing.
use Rattle.std.specs.Prelude.{◌≡◌, ◌↔◌, List, map, ℕ, ◌≤◌, length}
use Rattle.std.proofs.Common.{sym, ◌∙◌, subst}
use Rattle.std.proofs.lemmas.List.{length-map}
use Rattle.digit_code.specs.document.Code.{decode}
use Rattle.skeleton.specs.document.Label.{digits, labels}
use Rattle.skeleton.specs.document.AtomMarks.{atoms}
use Rattle.skeleton.specs.Carbon.{carbon_mark}
use Rattle.skeleton.proofs.Carbon.{carbon-digits, carbon-labels}
use Rattle.orbits.specs.document.Carried.{Carried, ClassesOf, Carriedₗ, ClassesOfₗ}
use Rattle.orbits.specs.document.Numbering.{class, ByAppearance}
use Rattle.orbits.specs.Appearance.{first-class, one-numbering}
use Rattle.orbits.specs.Classes.{appearance_same}

-- Where every vertex is carbon they are those of the plain code.
pub classes-carbon : (c l : List ℕ) → ClassesOfₗ atoms (map carbon_mark c) l ↔ ClassesOf c l
classes-carbon c l = subst (λ n. ByAppearance (Carriedₗ atoms n (decode (digits atoms m)) (labels atoms m)) n l ↔ ClassesOf c l) (sym long)
    (subst (λ d. ByAppearance (Carriedₗ atoms (length c) (decode d) (labels atoms m)) (length c) l ↔ ClassesOf c l) (sym (carbon-digits c))
    (appearance_same (λ u v a b g h. same u v), appearance_same (λ u v a b g h. ((same u v).1, (same u v).0))))
  where
    m : List ℕ
    m = map carbon_mark c

    long : length m ≡ length c
    long = length-map c carbon_mark

    -- every renumbering keeps the atoms
    same : (u v : ℕ) → Carriedₗ atoms (length c) (decode c) (labels atoms m) u v ↔ Carried (length c) (decode c) u v
    same u v = (λ (ρ, e, k). (ρ, e), λ (ρ, e). (ρ, e, λ w a b. carbon-labels c (ρ.to w) ∙ sym (carbon-labels c w)))

-- No other list of numbers is so.
pub one-classes : (c l m : List ℕ) → ClassesOf c l → ClassesOf c m → l ≡ m
one-classes c l m = one-numbering

-- In it the first vertex is in class 1.
pub classes-first : (c l : List ℕ) → ClassesOf c l → 1 ≤ length c → class l 1 ≡ 1
classes-first c l = first-class
