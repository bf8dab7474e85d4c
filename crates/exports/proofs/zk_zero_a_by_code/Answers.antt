-- `exports::zk_zero_a_by_code` keeps its promise. Assumes nothing.
use borrow.Author.Rules.{rules}
use Rattle.zurkhovel.specs.PlacesMatrix.{places_zero_a_by_code}
use Rattle.zurkhovel.specs.Tabled.{in-edition}
use Rattle.exports.proofs.zk_zero_a_by_code.Goals as goal

pub valued-requires : goal.valued-requires
valued-requires c = let h = places_zero_a_by_code (in-edition c.args.edition) in rw c.uncounted.ensures (search (rules, h))
