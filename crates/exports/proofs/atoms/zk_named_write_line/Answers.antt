-- `exports::atoms::zk_named_write_line` keeps its promise. Assumes nothing.
use borrow.Author.Rules.{rules}
use Rattle.named.specs.Places.{places-named-write-line}
use Rattle.exports.proofs.atoms.zk_named_write_line.Goals as goal

pub answered-requires : goal.answered-requires
answered-requires c = rw c.counted.ensures.0 (search (rules, places-named-write-line))
