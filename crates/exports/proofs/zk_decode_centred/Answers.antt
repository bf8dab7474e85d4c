-- `exports::zk_decode_centred` keeps its promise. Assumes nothing.
use borrow.Author.Rules.{rules}
use Rattle.zurkhovel.specs.Places.{places-decode-form}
use Rattle.exports.proofs.zk_decode_centred.Goals as goal

pub answered-requires : goal.answered-requires
answered-requires c = search (rules, places-decode-form)
