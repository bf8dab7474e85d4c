-- `zurkhovel::editions::a_zero` meets its contract. Assumes nothing.
use mathlib.Core.List.{List}
use Prim.Native.Nat.{ℕ}
use Rattle.refusal.specs.document.Table.{Row}
use Rattle.limits.specs.document.Limits.{a_size}
use Rattle.adjacency.specs.document.Adjacency.{a_rows}
use Rattle.edition.specs.Laws.{lawful_limit}
use Rattle.edition.proofs.Laws.{answers_in, no_edition}
use Rattle.zurkhovel.proofs.editions.a_zero.Goals as goal

pub returns-in_err-limit : goal.returns-in_err-limit
returns-in_err-limit c = let rows : ℕ → List Row = λ R. let a = c.args in a_rows a_size R a.n a.value in
    no_edition _ rows c.from_residual.ensures.1 c.in_err-limit.ensures.1

pub a_check-requires : goal.a_check-requires
a_check-requires c = (lawful_limit _ c.in_ok-limit.ensures).1

pub returns : goal.returns
returns c = let rows : ℕ → List Row = λ R. let a = c.args in a_rows a_size R a.n a.value in
    answers_in _ c.in_ok-limit.ensures (rows) c.a_check.ensures
