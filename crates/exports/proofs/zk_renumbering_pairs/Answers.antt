-- `exports::zk_renumbering_pairs` keeps its promise. Assumes nothing.
use mathlib.Core.Path.{refl}
use Rattle.refusal.specs.document.Outcome.{told_of}
use Rattle.refusal.specs.document.Reported.{answer}
use Rattle.zurkhovel.specs.PlacesMaps.{places-renumbering}
use Rattle.exports.proofs.zk_renumbering_pairs.Goals as goal

pub sent-requires : goal.sent-requires
sent-requires c = rw c.counted.ensures.0 (places-renumbering _ _ _ _ _ _ _ _ c.renumbering.ensures.promised)

pub returns : goal.returns
returns c = (told_of (answer c.renumbering.result), rw c.counted.ensures.1 c.renumbering.ensures, rw c.sent.ensures (rw c.counted.ensures.0 refl))
