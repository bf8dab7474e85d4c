-- `lines::read_line_of` meets its contract. Assumes nothing.
use Rattle.std.specs.Prelude.{refl}
use Rattle.refusal.proofs.Laws.{is_refusal}
use Rattle.edition.specs.Laws.{lawful_limit}
use Rattle.lines.specs.OfEdition.{line-none, line_in}
use Rattle.lines.proofs.read_line_of.Goals as goal

pub returns-in_err-limit : goal.returns-in_err-limit
returns-in_err-limit c = rw (is_refusal c.from_residual.result c.from_residual.ensures.1) (line-none _ c.in_err-limit.ensures.1 refl)

pub read_line-requires : goal.read_line-requires
read_line-requires c = (lawful_limit _ c.in_ok-limit.ensures).0

pub returns : goal.returns
returns c = line_in _ c.in_ok-limit.ensures c.read_line.ensures
