-- `exports::zk_check_edges` keeps its promise. Assumes nothing.
use borrow.Author.Rules.{rules}
use Rattle.zurkhovel.specs.Places.{places-check-edges}
use Rattle.exports.proofs.zk_check_edges.Goals as goal

pub passed-requires : goal.passed-requires
passed-requires c = search (rules, places-check-edges)
