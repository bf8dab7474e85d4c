-- `letters::is_letter` meets its contract. Assumes nothing.
use mathlib.Core.Path.{◌≡◌, sym, ◌∙◌, subst}
use mathlib.Core.Logic.{◌⊎◌, inl, inr}
use Prim.Native.Nat.{ℕ}
use Rattle.std.proofs.lemmas.Bool.{eq-eqb, eqb-true, eqb-false}
use Rattle.laws.specs.Tells.{Tells, holds, tells}
use Rattle.skeleton.specs.document.Atom.{C, N, O, letter, Letter}
use Rattle.letters.proofs.is_letter.Goals as goal
use Rattle.letters.proofs.is_letter.Goals.{then-b-eq67, else-b-eq67}

none : (b : ℕ) → (b ≡ letter C → ⊥) → (b ≡ letter N → ⊥) → (b ≡ letter O → ⊥) → Letter b → ⊥
none b c n o (C, e) = c e
none b c n o (N, e) = n e
none b c n o (O, e) = o e

nitrogen : {b : ℕ} → (b ≡ letter C → ⊥) → (b ≡ letter C) ⊎ ((b ≡ letter C → ⊥) × (b ≡ letter N)) → b ≡ letter N
nitrogen n (inl e) = absurd (n e)
nitrogen n (inr (_, e)) = e

pub returns-then-b-eq78 : goal.returns-then-b-eq78
returns-then-b-eq78 c =
    elim c.if-b-eq67.branch [
      | then-b-eq67 w ↦ subst (Tells (Letter c.args.b)) (sym (w.t-3-is ∙ eq-eqb c.args.b 67 w.if-b-eq67.true)) (holds (C, w.if-b-eq67.true))
      | else-b-eq67 w ↦
          let e = nitrogen w.if-b-eq67.false c.if-b-eq78.either in
          subst (Tells (Letter c.args.b)) (sym (w.t-3-is ∙ eq-eqb c.args.b 78 e)) (holds (N, e))
    ]

pub returns-else-b-eq78 : goal.returns-else-b-eq78
returns-else-b-eq78 c = tells _ (λ e. (O, eqb-true c.args.b 79 e)) (λ e. none _ c.if-b-eq78.false.0 c.if-b-eq78.false.1 (eqb-false c.args.b 79 e))
