-- `exports::atoms::zk_named_fraction` keeps its promise. Assumes nothing.
use borrow.Author.Rules.{rules}
use Rattle.zurkhovel.specs.PlacesBits.{places-fraction}
use Rattle.named.specs.Carbon.{of_carbon}
use Rattle.exports.proofs.atoms.zk_named_fraction.Goals as goal

pub valued-requires : goal.valued-requires
valued-requires c = let h = places-fraction (of_carbon c.args.letters.now) in rw c.counted.ensures.0 (search (rules, h))
