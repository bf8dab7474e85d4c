-- `exports::zk_whole_pairs` keeps its promise. Assumes nothing.
use borrow.Author.Rules.{rules}
use Rattle.zurkhovel.specs.PlacesBits.{places-whole}
use Rattle.zurkhovel.specs.Tabled.{in-edition}
use Rattle.exports.proofs.zk_whole_pairs.Goals as goal

pub valued-requires : goal.valued-requires
valued-requires c = let h = places-whole (in-edition c.args.edition) in rw c.counted.ensures.0 (search (rules, h))
