-- `exports::zk_decode_code` keeps its promise. Assumes nothing.
use borrow.Author.Rules.{rules}
use Rattle.zurkhovel.specs.Places.{places-decode-code}
use Rattle.exports.proofs.zk_decode_code.Goals as goal

pub answered-requires : goal.answered-requires
answered-requires c = search (rules, places-decode-code)
