-- `exports::zk_same_skeleton_pairs` keeps its promise. Assumes nothing.
use mathlib.Core.Path.{refl}
use Rattle.refusal.specs.document.Outcome.{told_of}
use Rattle.refusal.specs.document.Reported.{answer}
use Rattle.zurkhovel.specs.Places.{places-same-skeleton}
use Rattle.exports.proofs.zk_same_skeleton_pairs.Goals as goal

pub found-requires : goal.found-requires
found-requires c = rw c.counted.ensures.0 (places-same-skeleton _ _ _ _ _ _ c.same_skeleton.ensures.promised)

pub returns : goal.returns
returns c = (told_of (answer c.same_skeleton.result), rw c.counted.ensures.1 c.same_skeleton.ensures, rw c.found.ensures (rw c.counted.ensures.0 refl))
