-- `exports::atoms::zk_named_decode_centred` keeps its promise. Assumes nothing.
use borrow.Author.Rules.{rules}
use Rattle.named.specs.Places.{places-named-decode-form}
use Rattle.exports.proofs.atoms.zk_named_decode_centred.Goals as goal

pub answered-requires : goal.answered-requires
answered-requires c = search (rules, places-named-decode-form)
