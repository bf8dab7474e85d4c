-- `centred_check::spot` meets its contract: the loop keeps that what is left stands before none of the children passed. Assumes nothing.
use Rattle.centred_check.specs.Kinds.{kinds}
use Rattle.centred_check.specs.Spot.{Seeking}
use Rattle.centred_check.proofs.spot.Given as goal

abbrev pub invariant-loop-m : goal.invariant-loop-m
invariant-loop-m l = Seeking (kinds l.named) l.code l.x l.e l.y l.m
