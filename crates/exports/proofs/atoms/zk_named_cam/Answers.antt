-- `exports::atoms::zk_named_cam` keeps its promise. Assumes nothing.
use borrow.Author.Rules.{rules}
use Rattle.zurkhovel.specs.PlacesMatrix.{places-cam}
use Rattle.named.specs.Carbon.{of_carbon}
use Rattle.exports.proofs.atoms.zk_named_cam.Goals as goal

pub answered-requires : goal.answered-requires
answered-requires c = let h = places-cam (of_carbon c.args.letters.now) in search (rules, h)
