-- `exports::zk_pack` keeps its promise. Assumes nothing.
use borrow.Author.Rules.{rules}
use Rattle.zurkhovel.specs.PlacesBits.{places-pack}
use Rattle.zurkhovel.specs.Tabled.{in-edition}
use Rattle.exports.proofs.zk_pack.Goals as goal

pub answered-requires : goal.answered-requires
answered-requires c = search (rules, places-pack (in-edition 1))
