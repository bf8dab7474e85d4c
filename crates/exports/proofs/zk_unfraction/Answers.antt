-- `exports::zk_unfraction` keeps its promise. Assumes nothing.
use borrow.Author.Rules.{rules}
use Rattle.zurkhovel.specs.PlacesBits.{places-unfraction}
use Rattle.exports.proofs.zk_unfraction.Goals as goal

pub answered-requires : goal.answered-requires
answered-requires c = search (rules, places-unfraction)
