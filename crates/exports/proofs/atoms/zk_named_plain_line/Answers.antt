-- `exports::atoms::zk_named_plain_line` keeps its promise. Assumes nothing.
use borrow.Author.Rules.{rules}
use Rattle.zurkhovel.specs.PlacesText.{places-write-line}
use Rattle.named.specs.Carbon.{of_carbon}
use Rattle.exports.proofs.atoms.zk_named_plain_line.Goals as goal

pub answered-requires : goal.answered-requires
answered-requires c = let h = places-write-line (of_carbon c.args.letters.now) in rw c.counted.ensures.0 (search (rules, h))
