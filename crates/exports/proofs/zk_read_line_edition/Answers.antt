-- `exports::zk_read_line_edition` keeps its promise. Assumes nothing.
use borrow.Author.Rules.{rules}
use Rattle.zurkhovel.specs.PlacesText.{places-read-line}
use Rattle.exports.proofs.zk_read_line_edition.Goals as goal

pub answered-requires : goal.answered-requires
answered-requires c = search (rules, places-read-line)
