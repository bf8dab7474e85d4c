-- `exports::zk_renumbering` keeps its promise. Assumes nothing.
use mathlib.Core.Path.{refl}
use Rattle.zurkhovel.specs.PlacesMaps.{places-renumbering}
use Rattle.exports.proofs.zk_renumbering.Goals as goal

pub sent-requires : goal.sent-requires
sent-requires c = rw c.uncounted.ensures (places-renumbering _ _ _ _ _ _ _ _ c.renumbering.ensures.promised)

pub returns : goal.returns
returns c = (_, c.renumbering.ensures.promised, rw c.sent.ensures (rw c.uncounted.ensures refl))
