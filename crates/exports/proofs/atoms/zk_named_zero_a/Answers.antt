-- `exports::atoms::zk_named_zero_a` keeps its promise. Assumes nothing.
use borrow.Author.Rules.{rules}
use Rattle.zurkhovel.specs.PlacesMatrix.{places_zero_a}
use Rattle.named.specs.Carbon.{of_carbon}
use Rattle.exports.proofs.atoms.zk_named_zero_a.Goals as goal

pub valued-requires : goal.valued-requires
valued-requires c = let h = places_zero_a (of_carbon c.args.letters.now) in search (rules, h)
