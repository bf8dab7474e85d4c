-- The tables of the editions are such as the theorems on promises over a table ask for (`Tabled`). Assumes nothing.
use Rattle.std.specs.Prelude.{refl, List, [], ◌∷◌, ℕ, ◌≤◌}
use Rattle.std.proofs.Common.{arith}
use Rattle.refusal.specs.document.Small.{Bounded}
use Rattle.refusal.specs.Bounded.{bounded_rows}
use Rattle.refusal.proofs.Bounded.{bounded_both}
use Rattle.limits.specs.document.Limits.{size}
use Rattle.adjacency.specs.document.Adjacency.{row14_physical}
use Rattle.edition.specs.document.Edition.{neighbours_in}
use Rattle.zurkhovel.specs.document.InEdition.{EdgeTable, physical_table, edge_table}
use Rattle.zurkhovel.specs.document.Tabled.{Tabled}
use Rattle.zurkhovel.specs.Accepted.{skeleton_of, root_of}
use Rattle.zurkhovel.specs.Bounds.{edges_bounded}

pub in-edition : (e : ℕ) → Tabled (edge_table e) (neighbours_in e)
in-edition e = record { skeleton = λ N E r k. skeleton_of k; root = λ N E r k. root_of E k; bounded = edges_bounded e }

-- where the numbering is to be physical
pub physical_bounded : {T : EdgeTable} {R most : ℕ} → Tabled T R → most ≤ size → (N : ℕ) (E : List ℕ) → Bounded (physical_table T most N E)
physical_bounded {T} {R} {most} t h N E =
    bounded_both (T most N E 1) (row14_physical N E ∷ []) (t.bounded h N E 1) (λ k. bounded_rows refl ((λ p a. omega (arith, a.1, (t.skeleton N E 1 k).few)), tt))
