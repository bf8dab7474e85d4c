-- `zurkhovel::editions::whole` meets its contract. Assumes nothing.
use mathlib.Core.List.{List}
use Prim.Native.Nat.{ℕ}
use borrow.Author.Rules.{rules}
use Rattle.refusal.specs.document.Table.{Row}
use Rattle.limits.specs.document.Limits.{whole_size}
use Rattle.bits.specs.document.Bits.{whole_rows}
use Rattle.refusal.proofs.Laws.{is_refusal}
use Rattle.edition.specs.Laws.{lawful_limit}
use Rattle.zurkhovel.proofs.Carried.{form-none, form_in}
use Rattle.zurkhovel.proofs.editions.whole.Goals as goal

pub returns-in_err-limit : goal.returns-in_err-limit
returns-in_err-limit c = let rows : ℕ → List Row = λ R. let a = c.args in whole_rows whole_size R a.n a.value in
    rw (is_refusal c.from_residual.result c.from_residual.ensures.1) (form-none _ rows c.in_err-limit.ensures.1 (search rules))

pub number_code-requires : goal.number_code-requires
number_code-requires c = record { le_limit = (lawful_limit _ c.in_ok-limit.ensures).0; out_len = search rules }

pub returns : goal.returns
returns c = let rows : ℕ → List Row = λ R. let a = c.args in whole_rows whole_size R a.n a.value in
    form_in _ c.in_ok-limit.ensures (rows) c.number_code.ensures
