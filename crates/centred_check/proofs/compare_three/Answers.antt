-- `centred_check::compare_three` meets its contract: the first part decides, or what is behind it. Assumes nothing.
use mathlib.Core.Path.{sym, ◌∙◌}
use mathlib.Core.List.{◌++◌}
use native.Mathlib.Omega.{arith}
use lib.ListN.{length}
use lib.Seq.{length-take-le}
use Rattle.centred_check.specs.Pieces.{lex-short, two-equal, two_few}
use Rattle.centred_check.proofs.Decided.{decided}
use Rattle.centred_check.proofs.compare_three.Goals as goal

pub returns-then-u-n : goal.returns-then-u-n
returns-then-u-n c = let a = c.args in c.compare.ensures ∙ sym (lex-short a.u.now a.a.now (a.b.now ++ a.d.now) (omega arith))

pub slice_bounds-compare-end : goal.slice_bounds-compare-end
slice_bounds-compare-end c = let a = c.args in sym (length-take-le (length a.a.now) a.u.now (omega arith))

pub later-requires : goal.later-requires
later-requires c = let a = c.args in omega (arith, two_few a.u.now a.a.now (a.b.now ++ a.d.now) (omega arith) (sym c.compare-2.ensures ∙ c.in-Equal.is) c.compare_two.ensures)

pub returns-in-Equal : goal.returns-in-Equal
returns-in-Equal c = let a = c.args in c.later.ensures ∙ two-equal a.u.now a.a.now (a.b.now ++ a.d.now) (omega arith) (sym c.compare-2.ensures ∙ c.in-Equal.is) c.compare_two.ensures

pub returns-in_default : goal.returns-in_default
returns-in_default c = let a = c.args in decided a.u.now a.a.now (a.b.now ++ a.d.now) (omega arith) _ (sym c.compare-2.ensures) c.in_default.not-Equal
