-- `exports::zk_whole` keeps its promise. Assumes nothing.
use borrow.Author.Rules.{rules}
use Rattle.zurkhovel.specs.PlacesBits.{places-whole}
use Rattle.zurkhovel.specs.Tabled.{in-edition}
use Rattle.exports.proofs.zk_whole.Goals as goal

pub valued-requires : goal.valued-requires
valued-requires c = let h = places-whole (in-edition c.args.edition) in rw c.uncounted.ensures (search (rules, h))
