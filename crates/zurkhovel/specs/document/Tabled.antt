-- What the theorems on promises over the table of an edge list ask of the table. That the tables of the editions are such is `in-edition`; that the table of carbon alone is, `of_carbon` of the
-- crate `named`. Assumes nothing.
use Rattle.std.specs.Prelude.{List, ℕ, ◌≤◌}
use Rattle.refusal.specs.document.Table.{Clear}
use Rattle.refusal.specs.document.Small.{Bounded}
use Rattle.limits.specs.document.Limits.{size}
use Rattle.skeleton.specs.document.Skeleton.{IsSkeleton}
use Rattle.zurkhovel.specs.document.InEdition.{EdgeTable}

-- it accepts skeletons with at most R neighbours at a vertex, and a root among their vertices; and what it refuses with fits into bytes
pub record Tabled (T : EdgeTable) (R : ℕ) : Type 1 where
  pub skeleton : {most : ℕ} (N : ℕ) (E : List ℕ) (r : ℕ) → Clear (T most N E r) → IsSkeleton most R N E
  pub root : {most : ℕ} (N : ℕ) (E : List ℕ) (r : ℕ) → Clear (T most N E r) → (1 ≤ r) × (r ≤ N)
  pub bounded : {most : ℕ} → most ≤ size → (N : ℕ) (E : List ℕ) (r : ℕ) → Bounded (T most N E r)
