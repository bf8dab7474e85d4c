-- Two tables that differ in one row, of one number: the stricter table's applies wherever the other's does, and maybe at more places.
--
-- In order: what the stricter table lets pass, the other does; a refusal of the stricter is the other's, or is by that row; so an answer that the stricter allows, the
-- other allows, or it is that refusal; and back, where it is known whether the stricter row applies. What rests on `First` is in `proofs.Stricter`. Assumes nothing.
use Rattle.std.specs.Prelude.{◌≡◌, ◌⊎◌, [], ◌∷◌, ℕ}
use Rattle.refusal.specs.document.Table.{RowOf, Clear, FirstRefusal, OutcomeOf, refuses}

-- the answer is a refusal by the number k
pub record RefusedBy {K A : Type 0} (k : K) (o : OutcomeOf K A) : Type 0 where
  pub place : ℕ
  pub is : o ≡ refuses k place

-- the row applies nowhere, or it has a first place
abbrev pub Told : {K : Type 0} → RowOf K → Type 0
Told {K} r = Clear (r ∷ []) ⊎ ((p : ℕ) × FirstRefusal (r ∷ []) r.number p)
