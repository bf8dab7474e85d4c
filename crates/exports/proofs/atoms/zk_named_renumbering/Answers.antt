-- `exports::atoms::zk_named_renumbering` keeps its promise. Assumes nothing.
use mathlib.Core.Path.{refl}
use Rattle.refusal.specs.document.Outcome.{told_of}
use Rattle.refusal.specs.document.Reported.{answer}
use Rattle.named.specs.Places.{places-named-renumbering}
use Rattle.exports.proofs.atoms.zk_named_renumbering.Goals as goal

pub sent-requires : goal.sent-requires
sent-requires c = rw c.counted.ensures.0 (places-named-renumbering _ _ _ _ _ _ _ _ _ c.renumbering.ensures.promised)

pub returns : goal.returns
returns c = (told_of (answer c.renumbering.result), rw c.counted.ensures.1 c.renumbering.ensures, rw c.sent.ensures (rw c.counted.ensures.0 refl))
