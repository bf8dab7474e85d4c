-- `exports::atoms::zk_named_n_tuple_code` keeps its promise. Assumes nothing.
use borrow.Author.Rules.{rules}
use Rattle.named.specs.Places.{places-named-n_tuple-code}
use Rattle.exports.proofs.atoms.zk_named_n_tuple_code.Goals as goal

pub answered-requires : goal.answered-requires
answered-requires c = rw c.counted.ensures.0 (search (rules, places-named-n_tuple-code))
