-- Two edge lists: what was checked of each in an edition; of two accepted ones the verdict by their sizes, and by their centred codes, as these are written and compared. Assumes nothing.
use mathlib.Core.Path.{◌≡◌, refl, sym, ◌∙◌, subst}
use mathlib.Core.Bool.{Bool, true, false}
use Rattle.std.specs.Bool.{Decides}
use mathlib.Core.List.{List}
use Prim.Native.Nat.{ℕ}
use lib.ListN.{take}
use Rattle.refusal.specs.Giving.{written}
use Rattle.refusal.specs.document.Table.{Clear, FirstRefusal, gives, kept, Writes}
use Rattle.form.specs.document.Form.{IsCentred}
use Rattle.form.specs.Forms.{centred-form}
use Rattle.zurkhovel.specs.document.Same.{list_rows, SameSkeleton}
use Rattle.zurkhovel.specs.Accepted.{tree_of}
use Rattle.zurkhovel.specs.Theorems.{both_clear, sizes_apart}
use Rattle.zurkhovel.specs.Handing.{judged-same, judged-other}
use Rattle.limits.specs.document.Limits.{size}
use Rattle.edition.specs.document.Edition.{IsEdition, neighbours_in}
use Rattle.edition.specs.Laws.{clear_in}
use Rattle.edge_list.specs.document.Edges.{edge_rows}
use Rattle.zurkhovel.specs.document.InEdition.{edge_table}

-- what was checked of a list for the limit r of an edition is so of the edition
module _ (e : ℕ) {r : ℕ} (is : r ≡ neighbours_in e) (N : ℕ) (E : List ℕ) where
  pub list_refuses : {k p : ℕ} → FirstRefusal (edge_rows size r N E 1) k p → FirstRefusal (list_rows e N E) k p
  list_refuses {k} {p} l = subst (λ (x : ℕ). FirstRefusal (edge_rows size x N E 1) k p) is l

module _ (e : ℕ) {r : ℕ} (i : (r ≡ neighbours_in e) × IsEdition e) (N : ℕ) (E : List ℕ) where
  pub list_clears : Clear (edge_rows size r N E 1) → Clear (edge_table e size N E 1)
  list_clears c = clear_in e i (λ R. edge_rows size R N E 1) c

-- of different sizes
pub verdict-sizes : {e N P : ℕ} {E F : List ℕ} → Clear (edge_table e size N E 1) → Clear (edge_table e size P F 1) → (N ≡ P → ⊥) → SameSkeleton e N E P F (gives false)
verdict-sizes {N = N} {P} {E} {F} k l n = kept {a = false} ((both_clear N P E F).1 (k, l)) (sizes_apart k l n)

-- by their codes
module _ {e N P : ℕ} {E F : List ℕ} (k : Clear (edge_table e size N E 1)) (l : Clear (edge_table e size P F 1)) {old a rest c : List ℕ}
    (v : Writes (IsCentred N E) old N a) (w : Writes (IsCentred P F) rest P c) where
  pub verdict-same : take N a ≡ take P c → SameSkeleton e N E P F (gives true)
  verdict-same q = judged-same ((both_clear N P E F).1 (k, l)) v.right w.right (sym (written v) ∙ q ∙ written w)

  pub verdict_different : (take N a ≡ take P c → ⊥) → SameSkeleton e N E P F (gives false)
  verdict_different n =
      judged-other ((both_clear N P E F).1 (k, l)) v.right w.right (λ c d. centred-form.one (tree_of N E 1 k)) (λ c d. centred-form.one (tree_of P F 1 l))
      (λ q. n (written v ∙ q ∙ sym (written w)))

  pub verdict : (b : Bool) → Decides b (take N a ≡ take P c) → SameSkeleton e N E P F (gives b)
  verdict true d = verdict-same (d.0 refl)
  verdict false d = verdict_different (λ q. let z : ◌≡◌ {A = Bool} false true = d.1 q in absurd cc)
