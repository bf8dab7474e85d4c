-- `exports::zk_same_skeleton` keeps its promise. Assumes nothing.
use mathlib.Core.Path.{refl}
use Rattle.zurkhovel.specs.Places.{places-same-skeleton}
use Rattle.exports.proofs.zk_same_skeleton.Goals as goal

pub found-requires : goal.found-requires
found-requires c = rw c.uncounted.ensures (places-same-skeleton _ _ _ _ _ _ c.same_skeleton.ensures.promised)

pub returns : goal.returns
returns c = (_, c.same_skeleton.ensures.promised, rw c.found.ensures (rw c.uncounted.ensures refl))
