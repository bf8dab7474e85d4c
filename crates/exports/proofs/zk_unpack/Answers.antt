-- `exports::zk_unpack` keeps its promise. Assumes nothing.
use borrow.Author.Rules.{rules}
use Rattle.zurkhovel.specs.PlacesBits.{places-unpack}
use Rattle.exports.proofs.zk_unpack.Goals as goal

pub answered-requires : goal.answered-requires
answered-requires c = search (rules, places-unpack)
