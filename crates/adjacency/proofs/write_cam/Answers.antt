-- `adjacency::write_cam` meets its contract. The loop's invariant: the entries before i are written. Assumes nothing.
use mathlib.Core.Path.{◌≡◌, sym}
use Prim.Native.Nat.{◌+◌, ◌-◌}
use Rattle.adjacency.specs.document.Adjacency.{from, cam}
use Rattle.std.proofs.Common.{Some}
use Rattle.adjacency.specs.Parts.{Only}
use Rattle.adjacency.proofs.Search.{only_some}
use Rattle.adjacency.proofs.Writing.{cam-more, laid_none}
use native.Mathlib.Omega.{arith}
use Rattle.adjacency.proofs.write_cam.Goals as goal

pub loop-i-init : goal.loop-i-init
unfolding from
loop-i-init c = (omega arith, sym (laid_none _))

pub unwrap-requires : goal.unwrap-requires
unwrap-requires c = only_some c.args.edges.now (c.loop-i.i + 1) c.only.result c.only.ensures (c.requires.numbered.1.only (c.loop-i.i + 1) (omega arith) (omega arith))

pub overflow_cast-out : goal.overflow_cast-out
overflow_cast-out c = let one : Only c.args.edges.now (c.loop-i.i + 1) (Some c.unwrap.result) = rw c.unwrap.ensures at c.only.ensures in omega (arith, one.1, c.requires.n_le_size)

pub loop-i-preserved : goal.loop-i-preserved
loop-i-preserved c = let one : Only c.args.edges.now (c.loop-i.i + 1) (Some c.unwrap.result) = rw c.unwrap.ensures at c.only.ensures in
    (omega arith, cam-more _ _ _ c.loop-i.i _ (omega arith) c.loop-i.invariant.1 one.0 (omega arith))

pub returns : goal.returns
unfolding cam
returns c = let e : c.loop-i.i - 1 ≡ c.args.n - 1 = omega arith in rw e at c.loop-i.invariant.1
