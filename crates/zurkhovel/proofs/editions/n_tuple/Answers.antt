-- `zurkhovel::editions::n_tuple` meets its contract. Assumes nothing.
use mathlib.Core.List.{List}
use Prim.Native.Nat.{ℕ}
use Rattle.refusal.specs.document.Table.{Row}
use Rattle.limits.specs.document.Limits.{size}
use Rattle.form.specs.document.Form.{IsNTuple, form_rows}
use Rattle.edition.specs.Laws.{lawful_limit}
use Rattle.edition.proofs.Laws.{answers_in, no_edition}
use Rattle.zurkhovel.proofs.editions.n_tuple.Goals as goal

pub returns-in_err-limit : goal.returns-in_err-limit
returns-in_err-limit c = let rows : ℕ → List Row = λ R. let a = c.args in form_rows IsNTuple size R a.code.now in
    no_edition _ rows c.from_residual.ensures.1 c.in_err-limit.ensures.1

pub check_n_tuple-requires : goal.check_n_tuple-requires
check_n_tuple-requires c = lawful_limit _ c.in_ok-limit.ensures

pub returns : goal.returns
returns c = let rows : ℕ → List Row = λ R. let a = c.args in form_rows IsNTuple size R a.code.now in
    answers_in _ c.in_ok-limit.ensures (rows) c.check_n_tuple.ensures
