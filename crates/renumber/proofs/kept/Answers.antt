-- `renumber::kept` meets its contract. Assumes nothing.
use borrow.Author.Tests.{eqb-true, eqb-false}
use Rattle.laws.specs.Tells.{tells}
use Rattle.renumber.proofs.kept.Goals as goal

pub returns : goal.returns
returns c = tells _ (λ e. eqb-true _ _ e) (λ e. eqb-false _ _ e)
