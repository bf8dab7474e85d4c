-- `exports::zk_cam_by_code` keeps its promise. Assumes nothing.
use borrow.Author.Rules.{rules}
use Rattle.zurkhovel.specs.PlacesMatrix.{places-cam_by_code}
use Rattle.zurkhovel.specs.Tabled.{in-edition}
use Rattle.exports.proofs.zk_cam_by_code.Goals as goal

pub answered-requires : goal.answered-requires
answered-requires c = let h = places-cam_by_code (in-edition c.args.edition) in rw c.uncounted.ensures (search (rules, h))
