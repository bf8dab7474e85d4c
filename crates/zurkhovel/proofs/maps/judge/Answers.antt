-- `zurkhovel::maps::judge` keeps its promise. Assumes nothing.
use Rattle.refusal.proofs.Laws.{clear_of, refusal_of}
use Rattle.zurkhovel.specs.Accepted.{table_of}
use Rattle.zurkhovel.proofs.Handing.{map_passed, map_refused}
use Rattle.zurkhovel.proofs.maps.judge.Goals as goal

pub check-requires : goal.check-requires
check-requires c = table_of c.requires.clear

pub returns-in-Ok : goal.returns-in-Ok
returns-in-Ok c = map_passed _ _ c.args.edges1.now c.args.edges2.now c.requires.clear c.requires.clear_2 c.args.map.now (clear_of c.in-Ok.ensures)

pub returns-in-Err : goal.returns-in-Err
returns-in-Err c = map_refused _ _ c.args.edges1.now c.args.edges2.now c.requires.clear c.requires.clear_2 c.args.map.now (refusal_of c.in-Err.ensures)
