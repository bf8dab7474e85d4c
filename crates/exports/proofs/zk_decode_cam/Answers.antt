-- `exports::zk_decode_cam` keeps its promise. Assumes nothing.
use borrow.Author.Rules.{rules}
use Rattle.zurkhovel.specs.PlacesMatrix.{places-decode-cam}
use Rattle.exports.proofs.zk_decode_cam.Goals as goal

pub answered-requires : goal.answered-requires
answered-requires c = search (rules, places-decode-cam)
