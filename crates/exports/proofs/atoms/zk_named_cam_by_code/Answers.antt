-- `exports::atoms::zk_named_cam_by_code` keeps its promise. Assumes nothing.
use borrow.Author.Rules.{rules}
use Rattle.zurkhovel.specs.PlacesMatrix.{places-cam_by_code}
use Rattle.named.specs.Carbon.{of_carbon}
use Rattle.exports.proofs.atoms.zk_named_cam_by_code.Goals as goal

pub answered-requires : goal.answered-requires
answered-requires c = let h = places-cam_by_code (of_carbon c.args.letters.now) in rw c.counted.ensures.0 (search (rules, h))
