-- `exports::zk_centred_code` keeps its promise. Assumes nothing.
use borrow.Author.Rules.{rules}
use Rattle.zurkhovel.specs.Places.{places-centred-code}
use Rattle.exports.proofs.zk_centred_code.Goals as goal

pub answered-requires : goal.answered-requires
answered-requires c = rw c.uncounted.ensures (search (rules, places-centred-code))
