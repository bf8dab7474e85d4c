-- `exports::atoms::zk_named_check_renumbering` keeps its promise. Assumes nothing.
use borrow.Author.Rules.{rules}
use Rattle.named.specs.Places.{places-named-check-renumbering}
use Rattle.exports.proofs.atoms.zk_named_check_renumbering.Goals as goal

pub judged-requires : goal.judged-requires
judged-requires c = search (rules, places-named-check-renumbering)
