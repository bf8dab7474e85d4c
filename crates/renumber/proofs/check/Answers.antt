-- `renumber::check` meets its contract. Assumes nothing.
use Rattle.refusal.proofs.Laws.{alike-answers}
use Rattle.skeleton.specs.Carbon.{carbon}
use Rattle.renumber.specs.Kept.{kept-carbon}
use Rattle.renumber.proofs.Atoms.{zeros-named}
use Rattle.renumber.proofs.check.Goals as goal

pub returns : goal.returns
returns c = alike-answers (kept-carbon c.args.n1 c.args.edges1.now c.args.n2 c.args.edges2.now c.args.map.now) (c.check_marks.ensures carbon carbon (zeros-named _) (zeros-named _))
