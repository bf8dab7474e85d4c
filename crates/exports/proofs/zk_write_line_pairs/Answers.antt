-- `exports::zk_write_line_pairs` keeps its promise. Assumes nothing.
use borrow.Author.Rules.{rules}
use Rattle.zurkhovel.specs.PlacesText.{places-write-line}
use Rattle.zurkhovel.specs.Tabled.{in-edition}
use Rattle.exports.proofs.zk_write_line_pairs.Goals as goal

pub answered-requires : goal.answered-requires
answered-requires c = let h = places-write-line (in-edition c.args.edition) in rw c.counted.ensures.0 (search (rules, h))
