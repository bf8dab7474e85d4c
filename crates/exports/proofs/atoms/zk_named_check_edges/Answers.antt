-- `exports::atoms::zk_named_check_edges` keeps its promise. Assumes nothing.
use borrow.Author.Rules.{rules}
use Rattle.named.specs.Places.{places-named-check-edges}
use Rattle.exports.proofs.atoms.zk_named_check_edges.Goals as goal

pub passed-requires : goal.passed-requires
passed-requires c = search (rules, places-named-check-edges)
