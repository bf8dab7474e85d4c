-- `zurkhovel::editions::zero_a` meets its contract. Assumes nothing.
use mathlib.Core.List.{List}
use Prim.Native.Nat.{ℕ}
use Rattle.refusal.specs.document.Table.{Row}
use Rattle.limits.specs.document.Limits.{zero_size}
use Rattle.adjacency.specs.document.Adjacency.{zero_rows}
use Rattle.edition.specs.Laws.{lawful_limit}
use Rattle.edition.proofs.Laws.{answers_in, no_edition}
use Rattle.zurkhovel.proofs.editions.zero_a.Goals as goal

pub returns-in_err-limit : goal.returns-in_err-limit
returns-in_err-limit c = let rows : ℕ → List Row = λ R. let a = c.args in zero_rows zero_size R a.n a.value in
    no_edition _ rows c.from_residual.ensures.1 c.in_err-limit.ensures.1

pub zero_check-requires : goal.zero_check-requires
zero_check-requires c = (lawful_limit _ c.in_ok-limit.ensures).1

pub returns : goal.returns
returns c = let rows : ℕ → List Row = λ R. let a = c.args in zero_rows zero_size R a.n a.value in
    answers_in _ c.in_ok-limit.ensures (rows) c.zero_check.ensures
