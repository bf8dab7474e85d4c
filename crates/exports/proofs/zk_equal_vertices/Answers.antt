-- `exports::zk_equal_vertices` keeps its promise. Assumes nothing.
use borrow.Author.Rules.{rules}
use Rattle.zurkhovel.specs.PlacesText.{places-equal-vertices}
use Rattle.exports.proofs.zk_equal_vertices.Goals as goal

pub answered-requires : goal.answered-requires
answered-requires c = rw c.uncounted.ensures (search (rules, places-equal-vertices))
