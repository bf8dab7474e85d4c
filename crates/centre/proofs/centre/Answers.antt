-- `centre::centre` meets its contract. Assumes nothing.
use native.Mathlib.Omega.{arith}
use Rattle.centre.proofs.Twice.{starts, reached_in, trail, middle_is}
use Rattle.centre.proofs.centre.Goals as goal

pub walk-u-requires : goal.walk-u-requires
walk-u-requires c = record { held = c.requires; starts = starts (omega arith) (omega (arith, c.requires.skeleton.tree.edges)) }

pub walk-v-requires : goal.walk-v-requires
walk-v-requires c = let i = reached_in (c.walk-u.ensures c.requires.edges c.requires.skeleton.tree c.requires.table) in record { held = c.requires; starts = starts i.0 i.1 }

pub middle-requires : goal.middle-requires
middle-requires c = record { rest = _; trail = trail (c.walk-v.ensures c.requires.edges c.requires.skeleton.tree c.requires.table) c.requires.skeleton.few }

pub returns : goal.returns
returns c = λ E t k.
    let b = c.walk-v.ensures E t k in
    middle_is t (c.walk-u.ensures E t k) b (c.middle.ensures _ (trail b c.requires.skeleton.few))
