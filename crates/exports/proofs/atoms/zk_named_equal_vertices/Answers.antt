-- `exports::atoms::zk_named_equal_vertices` keeps its promise. Assumes nothing.
use borrow.Author.Rules.{rules}
use Rattle.named.specs.Places.{places-named-equal-vertices}
use Rattle.exports.proofs.atoms.zk_named_equal_vertices.Goals as goal

pub answered-requires : goal.answered-requires
answered-requires c = rw c.counted.ensures.0 (search (rules, places-named-equal-vertices))
