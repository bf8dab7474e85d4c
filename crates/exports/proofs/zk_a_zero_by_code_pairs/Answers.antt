-- `exports::zk_a_zero_by_code_pairs` keeps its promise. Assumes nothing.
use borrow.Author.Rules.{rules}
use Rattle.zurkhovel.specs.PlacesMatrix.{places_a_zero_by_code}
use Rattle.zurkhovel.specs.Tabled.{in-edition}
use Rattle.exports.proofs.zk_a_zero_by_code_pairs.Goals as goal

pub valued-requires : goal.valued-requires
valued-requires c = let h = places_a_zero_by_code (in-edition c.args.edition) in rw c.counted.ensures.0 (search (rules, h))
