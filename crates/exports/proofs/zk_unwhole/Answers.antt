-- `exports::zk_unwhole` keeps its promise. Assumes nothing.
use borrow.Author.Rules.{rules}
use Rattle.zurkhovel.specs.PlacesBits.{places-unwhole}
use Rattle.exports.proofs.zk_unwhole.Goals as goal

pub answered-requires : goal.answered-requires
answered-requires c = search (rules, places-unwhole)
