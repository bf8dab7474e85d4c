-- `edition::limit_of` meets its contract. Assumes nothing.
use Rattle.std.specs.Prelude.{◌≡◌, refl, ℕ, zero, suc}
use Rattle.edition.specs.document.Edition.{neighbours_in}
use Rattle.edition.proofs.limit_of.Goals as goal

-- of any other edition
none : (e : ℕ) → (e ≡ 1 → ⊥) → (e ≡ 2 → ⊥) → 0 ≡ neighbours_in e
unfolding neighbours_in
none zero n m = refl
none (suc zero) n m = absurd (n refl)
none (suc (suc zero)) n m = absurd (m refl)
none (suc (suc (suc e))) n m = refl

pub returns-then-edition-eq1 : goal.returns-then-edition-eq1
unfolding neighbours_in
returns-then-edition-eq1 c = rw c.if-edition-eq1.true refl

pub returns-then-edition-eq2 : goal.returns-then-edition-eq2
unfolding neighbours_in
returns-then-edition-eq2 c = rw c.if-edition-eq2.true refl

pub returns : goal.returns
returns c = none _ c.if-edition-eq1.false c.if-edition-eq2.false
