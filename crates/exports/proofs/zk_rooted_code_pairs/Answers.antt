-- `exports::zk_rooted_code_pairs` keeps its promise. Assumes nothing.
use borrow.Author.Rules.{rules}
use Rattle.zurkhovel.specs.Places.{places-rooted-code}
use Rattle.exports.proofs.zk_rooted_code_pairs.Goals as goal

pub answered-requires : goal.answered-requires
answered-requires c = rw c.counted.ensures.0 (search (rules, places-rooted-code))
