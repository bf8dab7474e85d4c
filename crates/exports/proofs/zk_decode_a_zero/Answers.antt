-- `exports::zk_decode_a_zero` keeps its promise. Assumes nothing.
use borrow.Author.Rules.{rules}
use Rattle.zurkhovel.specs.PlacesMatrix.{places-decode_a_zero}
use Rattle.exports.proofs.zk_decode_a_zero.Goals as goal

pub answered-requires : goal.answered-requires
answered-requires c = search (rules, places-decode_a_zero)
