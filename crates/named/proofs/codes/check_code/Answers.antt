-- `named::codes::check_code` keeps its promise. Assumes nothing.
use Rattle.std.specs.Prelude.{refl}
use Rattle.refusal.specs.Laws.{check-answered}
use Rattle.named.proofs.codes.check_code.Goals as goal

pub returns : goal.returns
returns c = check-answered c.check_code.ensures refl
