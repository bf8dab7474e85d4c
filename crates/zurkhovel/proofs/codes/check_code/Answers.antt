-- `zurkhovel::codes::check_code` keeps its promise. Assumes nothing.
use Rattle.std.specs.Prelude.{refl}
use Rattle.refusal.specs.Laws.{check-answered}
use Rattle.zurkhovel.proofs.codes.check_code.Goals as goal

pub returns : goal.returns
returns c = check-answered c.code.ensures refl
