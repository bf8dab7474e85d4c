-- `exports::zk_pack_pairs` keeps its promise. Assumes nothing.
use borrow.Author.Rules.{rules}
use Rattle.zurkhovel.specs.PlacesBits.{places-pack}
use Rattle.zurkhovel.specs.Tabled.{in-edition}
use Rattle.exports.proofs.zk_pack_pairs.Goals as goal

pub answered-requires : goal.answered-requires
answered-requires c = let h = places-pack (in-edition c.args.edition) in rw c.counted.ensures.0 (search (rules, h))
