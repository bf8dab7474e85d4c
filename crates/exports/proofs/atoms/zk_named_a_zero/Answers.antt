-- `exports::atoms::zk_named_a_zero` keeps its promise. Assumes nothing.
use borrow.Author.Rules.{rules}
use Rattle.zurkhovel.specs.PlacesMatrix.{places_a_zero}
use Rattle.named.specs.Carbon.{of_carbon}
use Rattle.exports.proofs.atoms.zk_named_a_zero.Goals as goal

pub valued-requires : goal.valued-requires
valued-requires c = let h = places_a_zero (of_carbon c.args.letters.now) in search (rules, h)
