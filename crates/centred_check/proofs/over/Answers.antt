-- `centred_check::over` meets its contract: the first piece decides, or what is behind it. Assumes nothing.
use mathlib.Core.Path.{sym, ◌∙◌}
use native.Mathlib.Omega.{arith}
use borrow.Author.Rules.{rules}
use Rattle.centred_check.specs.Kinds.{kinds}
use Rattle.centred_check.specs.Over.{over_not, over_so, over_by}
use Rattle.centred_check.proofs.over.Goals as goal

pub over_rest-requires : goal.over_rest-requires
over_rest-requires c = record { le_x = search rules; x_lt_y = search rules; y_le_e = search rules; e_in_bounds = search rules; bound = search rules }

pub returns-in-Less : goal.returns-in-Less
returns-in-Less c = let a = c.args in
    over_not (kinds a.named) a.code.now a.x a.y a.e (omega arith) (omega arith) (omega arith) (omega arith) _ (sym c.compare.ensures ∙ c.in-Less.is)

pub returns-in-Equal : goal.returns-in-Equal
returns-in-Equal c = let a = c.args in
    over_by (kinds a.named) a.code.now a.x a.y a.e (omega arith) (omega arith) (omega arith) (omega arith) _ (sym c.compare.ensures ∙ c.in-Equal.is) c.over_rest.ensures

pub returns-in-Greater : goal.returns-in-Greater
returns-in-Greater c = let a = c.args in
    over_so (kinds a.named) a.code.now a.x a.y a.e (omega arith) (omega arith) (omega arith) (omega arith) _ (sym c.compare.ensures ∙ c.in-Greater.is)
