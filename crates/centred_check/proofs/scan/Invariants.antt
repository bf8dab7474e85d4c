-- `centred_check::scan` meets its contract: the loop keeps what the marks read say. Assumes nothing.
use Rattle.centred_check.specs.Kinds.{kinds}
use Rattle.centred_check.specs.Scan.{Scan}
use Rattle.centred_check.proofs.scan.Given as goal

abbrev pub invariant-loop-i : goal.invariant-loop-i
invariant-loop-i l = Scan (kinds l.named) (λ m. l.limit) l.code l.hs l.starts l.i l.at
