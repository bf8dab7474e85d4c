-- `exports::zk_zero_a` keeps its promise. Assumes nothing.
use borrow.Author.Rules.{rules}
use Rattle.zurkhovel.specs.PlacesMatrix.{places_zero_a}
use Rattle.zurkhovel.specs.Tabled.{in-edition}
use Rattle.exports.proofs.zk_zero_a.Goals as goal

pub valued-requires : goal.valued-requires
valued-requires c = let h = places_zero_a (in-edition c.args.edition) in search (rules, h)
