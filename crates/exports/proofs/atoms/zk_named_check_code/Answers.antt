-- `exports::atoms::zk_named_check_code` keeps its promise. Assumes nothing.
use borrow.Author.Rules.{rules}
use Rattle.named.specs.Places.{places-named-check-code}
use Rattle.exports.proofs.atoms.zk_named_check_code.Goals as goal

pub passed-requires : goal.passed-requires
passed-requires c = search (rules, places-named-check-code)
