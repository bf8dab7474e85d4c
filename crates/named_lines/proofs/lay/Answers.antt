-- `named_lines::lay` meets its contract. Assumes nothing.
use mathlib.Core.Path.{ap}
use mathlib.Core.List.{List, ◌++◌}
use Prim.Native.Nat.{ℕ}
use lib.ListN.{length, drop}
use Rattle.laws.specs.document.Laid.{laid_over}
use Rattle.named_lines.proofs.lay.Goals as goal

pub returns : goal.returns
unfolding laid_over
returns c = ap (λ (l : List ℕ). l ++ drop (length c.args.t.now) c.args.out.now) c.copy_from_slice.ensures.after
