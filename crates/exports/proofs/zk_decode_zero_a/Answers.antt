-- `exports::zk_decode_zero_a` keeps its promise. Assumes nothing.
use borrow.Author.Rules.{rules}
use Rattle.zurkhovel.specs.PlacesMatrix.{places-decode_zero_a}
use Rattle.exports.proofs.zk_decode_zero_a.Goals as goal

pub answered-requires : goal.answered-requires
answered-requires c = search (rules, places-decode_zero_a)
