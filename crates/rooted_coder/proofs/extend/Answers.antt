-- `rooted_coder::extend` meets its contract. Assumes nothing.
use mathlib.Core.Path.{ap}
use Prim.Native.Nat.{◌+◌}
use native.Mathlib.Omega.{arith}
use lib.ListN.{get_or, set}
use Rattle.rooted_coder.proofs.extend.Goals as goal

pub overflow_add-lens : goal.overflow_add-lens
overflow_add-lens c = omega (arith, c.requires, ap (λ i. get_or c.args.lens.now i 0) c.end-m.ensures)

pub returns : goal.returns
returns c = ap (λ i. set c.args.lens.now c.args.at (get_or c.args.lens.now c.args.at 0 + get_or c.args.lens.now i 0)) c.end-m.ensures
