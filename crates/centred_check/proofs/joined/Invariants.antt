-- `centred_check::joined` meets its contract: the loop keeps that the trees passed fall, and the tallest of them. Assumes nothing.
use lib.ListN.{get_or}
use Rattle.centred_check.specs.Kinds.{kinds}
use Rattle.centred_check.specs.Placed.{Joining}
use Rattle.centred_check.proofs.joined.Given as goal

abbrev pub invariant-loop-j : goal.invariant-loop-j
invariant-loop-j l = Joining (kinds l.named).arity l.code l.hs (get_or l.starts l.at 0) l.at l.end l.j l.best
