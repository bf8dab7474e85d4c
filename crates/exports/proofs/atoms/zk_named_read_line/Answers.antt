-- `exports::atoms::zk_named_read_line` keeps its promise. Assumes nothing.
use borrow.Author.Rules.{rules}
use Rattle.named.specs.Places.{places-named-read-line}
use Rattle.exports.proofs.atoms.zk_named_read_line.Goals as goal

pub answered-requires : goal.answered-requires
answered-requires c = search (rules, places-named-read-line)
