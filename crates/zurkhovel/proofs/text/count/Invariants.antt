-- `zurkhovel::text::count` keeps its promise. Assumes nothing.
use mathlib.Core.Path.{◌≡◌}
use lib.ListN.{take}
use Rattle.std.specs.Prelude.{◌==◌}
use Rattle.std.specs.List.{count_by}
use Rattle.zurkhovel.proofs.text.count.Given as goal

abbrev pub invariant-loop-k : goal.invariant-loop-k
invariant-loop-k l = l.read ≡ count_by (λ k. k == 0) (take l.k-index l.numbers)
