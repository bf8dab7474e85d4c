-- What `==` and `!=` tell of two lists of numbers. Assumes nothing.
use Rattle.std.specs.Prelude.{◌≡◌, refl, Bool, true, false, List, ℕ}
use Rattle.std.specs.Bool.{Decides}
use Rattle.std.specs.Cmp.Lexicographic.{pointwise}
use Rattle.std.proofs.Common.{not, eqb, sym, ◌∙◌}
use Rattle.std.proofs.lemmas.Bool.{false≢true}
use Rattle.std.proofs.lemmas.Bool.Decides.{Decides-eqb}
use Rattle.std.proofs.lemmas.Slice.Eq.{slice_eq-Decides}
use Rattle.laws.specs.Tells.{Tells, tells, was_held, was_denied}

-- what `==` answers
pub equal_told : {a b : List ℕ} (r : Bool) → r ≡ pointwise eqb a b → Tells (a ≡ b) r
equal_told {a} {b} r e =
    let d : Decides r (a ≡ b) = slice_eq-Decides Decides-eqb a b r e in
    tells r d.0 (λ f q. false≢true (sym f ∙ d.1 q))

-- where `!=` answers `false`, and where it answers `true`
pub was_equal : {a b : List ℕ} (r : Bool) → r ≡ not (pointwise eqb a b) → r ≡ false → a ≡ b
was_equal {a} {b} r e f = was_held (equal_told (pointwise eqb a b) refl) (turned (pointwise eqb a b) (sym e ∙ f))
  where
    turned : (s : Bool) → not s ≡ false → s ≡ true
    turned true h = refl
    turned false h = sym h

pub was_apart : {a b : List ℕ} (r : Bool) → r ≡ not (pointwise eqb a b) → r ≡ true → a ≡ b → ⊥
was_apart {a} {b} r e t = was_denied (equal_told (pointwise eqb a b) refl) (turned (pointwise eqb a b) (sym e ∙ t))
  where
    turned : (s : Bool) → not s ≡ true → s ≡ false
    turned true h = sym h
    turned false h = refl
