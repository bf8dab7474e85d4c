-- `exports::zk_cam` keeps its promise. Assumes nothing.
use borrow.Author.Rules.{rules}
use Rattle.zurkhovel.specs.PlacesMatrix.{places-cam}
use Rattle.zurkhovel.specs.Tabled.{in-edition}
use Rattle.exports.proofs.zk_cam.Goals as goal

pub answered-requires : goal.answered-requires
answered-requires c = let h = places-cam (in-edition c.args.edition) in search (rules, h)
