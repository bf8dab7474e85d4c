-- What two edge lists refuse behind 22, which is called 0, fits into bytes (`SmallOf`). Assumes nothing.
use Rattle.std.specs.Prelude.{◌≡◌, refl, List, [], ◌∷◌, ℕ, ◌≤◌, ◌<◌}
use Rattle.std.proofs.Common.{inl, inr, arith}
use Rattle.refusal.specs.document.Table.{of_list, First}
use Rattle.refusal.specs.document.Small.{SmallOf, BoundedBy}
use Rattle.refusal.proofs.Laws.{list-told}
use Rattle.refusal.proofs.WhichList as Lists
use Rattle.edition.specs.document.Edition.{row22}
use Rattle.zurkhovel.specs.document.Same.{list_rows, both_rows}
use Rattle.zurkhovel.specs.Bounds.{lists_bounded}

-- 22 itself
none_of : (most e : ℕ) → BoundedBy (SmallOf most) (of_list 0 (row22 e ∷ []))
none_of most e = record { refusal = λ (j, k) p l. let (q, f) = list-told 0 (row22 e ∷ []) l in by j k p q f.is }
  where
    by : (j k p : ℕ) → j ≡ 0 → First (row22 e ∷ []) k p → SmallOf most (j, k) × (p < 256)
    by j k p q (inl (n, a, f)) = (inl (q, n), omega (arith, a.0))
    by j k p q (inr (n, f)) = absurd f

pub bounded_lists : (most e N P : ℕ) (E F : List ℕ) → 2 ≤ most → BoundedBy (SmallOf most) (both_rows e N E P F)
bounded_lists most e N P E F h = Lists.bounded_lists most (row22 e ∷ []) (list_rows e N E) (list_rows e P F) h (none_of most e) refl refl (lists_bounded e N E) (lists_bounded e P F)
