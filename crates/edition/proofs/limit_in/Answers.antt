-- `edition::limit_in` meets its contract. Assumes nothing.
use Rattle.std.proofs.Common.{[], sym, ◌∙◌}
use Rattle.edition.specs.Laws.{an_edition, refused_22}
use Rattle.edition.proofs.limit_in.Goals as goal

pub returns-then-limit-eq0 : goal.returns-then-limit-eq0
returns-then-limit-eq0 c = let z = sym c.limit_of-limit.ensures ∙ c.if-limit-eq0.true in (z, refused_22 [] z)

pub returns : goal.returns
returns c = (c.limit_of-limit.ensures, an_edition c.args.edition c.limit_of-limit.ensures c.if-limit-eq0.false)
