-- `exports::zk_check_code` keeps its promise. Assumes nothing.
use borrow.Author.Rules.{rules}
use Rattle.zurkhovel.specs.Places.{places-check-code}
use Rattle.exports.proofs.zk_check_code.Goals as goal

pub passed-requires : goal.passed-requires
passed-requires c = search (rules, places-check-code)
