-- `zurkhovel::codes::check_edges` keeps its promise. Assumes nothing.
use Rattle.std.specs.Prelude.{refl}
use Rattle.refusal.specs.Laws.{check-answered}
use Rattle.zurkhovel.proofs.codes.check_edges.Goals as goal

pub returns : goal.returns
returns c = check-answered c.edges.ensures refl
