-- Document 01, "Numbering by code": "The vertex of the i-th digit gets number i", of an edge list and a root: which vertex that is. Of equal siblings the one whose edge
-- is listed first goes first.
--
-- In order: the pairs looked at for the order of the vertices (`document.Order`); what it is to be one (`Numbers`); two orders side by side (`Beside`); then the
-- theorems, with labels, and for document 01's codes (`order-numbers`, `orders_beside`). What rests on `insert_by` or `kids_of` is in `proofs.Numbers`. Assumes nothing.
use Rattle.std.specs.Prelude.{◌≡◌}
use Rattle.std.proofs.Math.Path.{refl, ap}
use Rattle.std.proofs.Math.Logic.{ite, if_pos, if_neg}
use mathlib.Core.List.Permᴰ
use mathlib.Core.List.{List, Memᴰ}
use Prim.Native.Nat.{ℕ, suc, ◌-◌, ◌≤◌, ◌<◌}
use Rattle.std.proofs.Math.Decide.{ℕ_discrete}
use Rattle.std.proofs.Math.ListN.{length, get_or}
use Rattle.laws.specs.document.Once.{Once}
use Rattle.laws.specs.Places.{place}
use Rattle.digit_code.specs.document.Code.{decode}
use Rattle.skeleton.specs.document.Skeleton.{arcs, degree, children, rooted, Renumbering}
use Rattle.skeleton.specs.document.Label.{Marks}
use Rattle.numbering.specs.document.Order.{kids_of, mark_at}
use Rattle.numbering.specs.Order.{pairs_by}
use Rattle.numbering.specs.Numbering.{Reads}

module _ (M : Marks) (label : ℕ → M.Label) where
  -- the pairs of marks looked at where every two siblings are compared once
  unfoldable pub pairsₗ : ℕ → List ℕ → ℕ → ℕ
  pairsₗ N E r = pairs_by (mark_at M label E r) (children (arcs E)) N 0 r

-- o is the order of the vertices: each once, the root first; the i-th digit is the number of the i-th one's children; and the tree so
-- numbered is what its rooted code decodes to
pub record Numbers (N : ℕ) (E : List ℕ) (r : ℕ) (o : List ℕ) : Type 0 where
  pub all : length o ≡ N
  pub once : Once o
  pub within : (v : ℕ) → Memᴰ v o → (1 ≤ v) × (v ≤ N)
  pub has : (v : ℕ) → 1 ≤ v → v ≤ N → Memᴰ v o
  pub first : get_or o 0 0 ≡ r
  pub digit : (i : ℕ) → i < N → get_or (rooted N E r) i 0 ≡ kids_of E r (get_or o i 0)
  pub numbers : (ρ : Renumbering N E (decode (rooted N E r))) × (ρ.to r ≡ 1) × ((v : ℕ) → ρ.to v ≡ suc (place v o)) × ((i : ℕ) → ρ.from i ≡ get_or o (i - 1) 0)

-- ---- with labels

module _ (M : Marks) (label : ℕ → M.Label) (N : ℕ) (E : List ℕ) (r : ℕ) where
  pub reads_tree : Reads M label N E r (mark_at M label E r) (children (arcs E))
  unfolding kids_of
  reads_tree = record {
    kids = λ p v a b. Permᴰ.refl (children (arcs E) p v);
    top = ap (λ k. M.mark k (label r)) (if_pos (ℕ_discrete r r) refl (degree E r) (degree E r - 1));
    rest = λ v a b n. ap (λ k. M.mark k (label v)) (if_neg (ℕ_discrete v r) n (degree E v) (degree E v - 1));
  }

  pub reads_mark : {m : ℕ → ℕ} {K : ℕ → ℕ → List ℕ} → Reads M label N E r m K → (v : ℕ) → 1 ≤ v → v ≤ N → m v ≡ mark_at M label E r v
  unfolding kids_of
  reads_mark {m} ρ v a b = step (ℕ_discrete v r)
    where
      step : (d : Dec (v ≡ r)) → m v ≡ M.mark (ite d (degree E v) (degree E v - 1)) (label v)
      step (yes e) = rw e ρ.top
      step (no n) = ρ.rest v a b n

-- ---- document 01's codes
