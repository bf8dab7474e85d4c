-- `rooted_coder::fill` meets its contract: the loop writes the marks that vertices other than the root have. Assumes nothing.
use mathlib.Core.Path.{◌≡◌}
use mathlib.Core.List.{List}
use Prim.Native.Nat.{ℕ, ◌+◌, ◌-◌, ◌*◌, ◌≤◌}
use lib.ListN.{length, get_or}
use Rattle.letters.specs.Named.{rank_at}
use Rattle.edge_list.specs.Table.{deg}
use Rattle.rooted_coder.proofs.fill.Given as goal

-- the vertices up to i have marks
pub record Marking (d a s₀ s : List ℕ) (n i : ℕ) : Type 0 where
  pub long : length s ≡ length s₀
  pub done : (v : ℕ) → 1 ≤ v → v ≤ i → get_or s v 0 ≡ 3 * (deg d v - 1) + rank_at a v

abbrev pub invariant-loop-v : goal.invariant-loop-v
invariant-loop-v l = Marking l.table.degs l.atoms l.initial.marks l.marks l.n l.v
