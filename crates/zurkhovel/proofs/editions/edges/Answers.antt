-- `zurkhovel::editions::edges` meets its contract. Assumes nothing.
use mathlib.Core.List.{List}
use Prim.Native.Nat.{ℕ}
use Rattle.refusal.specs.document.Table.{Row}
use Rattle.edge_list.specs.document.Edges.{edge_rows}
use Rattle.edition.specs.Laws.{lawful_limit}
use Rattle.edition.proofs.Laws.{answers_in, no_edition}
use Rattle.zurkhovel.proofs.editions.edges.Goals as goal

pub returns-in_err-limit : goal.returns-in_err-limit
returns-in_err-limit c = let rows : ℕ → List Row = λ R. let a = c.args in edge_rows a.most R a.n a.edges.now a.root in
    no_edition _ rows c.from_residual.ensures.1 c.in_err-limit.ensures.1

pub check-requires : goal.check-requires
check-requires c = (lawful_limit _ c.in_ok-limit.ensures).1

pub returns : goal.returns
returns c = let rows : ℕ → List Row = λ R. let a = c.args in edge_rows a.most R a.n a.edges.now a.root in
    answers_in _ c.in_ok-limit.ensures (rows) c.check.ensures
