-- `exports::zk_check_renumbering` keeps its promise. Assumes nothing.
use borrow.Author.Rules.{rules}
use Rattle.zurkhovel.specs.PlacesMaps.{places-check-renumbering}
use Rattle.exports.proofs.zk_check_renumbering.Goals as goal

pub judged-requires : goal.judged-requires
judged-requires c = search (rules, places-check-renumbering)
