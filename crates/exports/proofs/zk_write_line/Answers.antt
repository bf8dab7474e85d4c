-- `exports::zk_write_line` keeps its promise. Assumes nothing.
use borrow.Author.Rules.{rules}
use Rattle.zurkhovel.specs.PlacesText.{places-write-line}
use Rattle.zurkhovel.specs.Tabled.{in-edition}
use Rattle.exports.proofs.zk_write_line.Goals as goal

pub answered-requires : goal.answered-requires
answered-requires c = search (rules, places-write-line (in-edition 1))
