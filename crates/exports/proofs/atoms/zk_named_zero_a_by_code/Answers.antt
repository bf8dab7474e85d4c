-- `exports::atoms::zk_named_zero_a_by_code` keeps its promise. Assumes nothing.
use borrow.Author.Rules.{rules}
use Rattle.zurkhovel.specs.PlacesMatrix.{places_zero_a_by_code}
use Rattle.named.specs.Carbon.{of_carbon}
use Rattle.exports.proofs.atoms.zk_named_zero_a_by_code.Goals as goal

pub valued-requires : goal.valued-requires
valued-requires c = let h = places_zero_a_by_code (of_carbon c.args.letters.now) in rw c.counted.ensures.0 (search (rules, h))
