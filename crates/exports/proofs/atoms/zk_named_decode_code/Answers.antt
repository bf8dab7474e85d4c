-- `exports::atoms::zk_named_decode_code` keeps its promise. Assumes nothing.
use borrow.Author.Rules.{rules}
use Rattle.named.specs.Places.{places-named-decode-code}
use Rattle.exports.proofs.atoms.zk_named_decode_code.Goals as goal

pub answered-requires : goal.answered-requires
answered-requires c = search (rules, places-named-decode-code)
