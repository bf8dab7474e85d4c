-- `zurkhovel::matrix::check` meets its contract. Assumes nothing.
use Rattle.refusal.proofs.Laws.{clear_of, behind, exits}
use native.Mathlib.Omega.{arith}
use Rattle.adjacency.specs.Plain.{numbered}
use Rattle.zurkhovel.specs.Accepted.{skeleton_of}
use Rattle.zurkhovel.proofs.matrix.check.Goals as goal

pub returns-in_err-edges : goal.returns-in_err-edges
returns-in_err-edges c = exits _ c.from_residual.ensures.1 c.in_err-edges.ensures

pub physical-requires : goal.physical-requires
physical-requires c = let s = skeleton_of (clear_of c.in_ok-edges.ensures) in (numbered s, omega (arith, s.few, c.requires))

pub returns : goal.returns
returns c = behind c.in_ok-edges.ensures c.physical.ensures
