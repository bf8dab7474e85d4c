-- `exports::zk_n_tuple_code` keeps its promise. Assumes nothing.
use borrow.Author.Rules.{rules}
use Rattle.zurkhovel.specs.Places.{places-n_tuple-code}
use Rattle.exports.proofs.zk_n_tuple_code.Goals as goal

pub answered-requires : goal.answered-requires
answered-requires c = rw c.uncounted.ensures (search (rules, places-n_tuple-code))
