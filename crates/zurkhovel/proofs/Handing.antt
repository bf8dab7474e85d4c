-- Maps between two edge lists: there is no such edition, or one list is refused; of two accepted ones the map that is handed out, with the pairs looked at, and the
-- one that is judged. Assumes nothing.
use mathlib.Core.Path.{◌≡◌, refl, subst}
use mathlib.Core.List.{List, [], ◌∷◌}
use Prim.Native.Nat.{ℕ}
use lib.ListN.{length}
use Rattle.refusal.specs.document.Table.{Clear, FirstRefusal, Outcome, gives, refuses, kept, left, short}
use Rattle.refusal.specs.Laws.{clear_left, others}
use Rattle.renumber.specs.document.Map.{map_rows, HandedOut}
use Rattle.form_coder.specs.document.Pairs.{CentredPairs}
use Rattle.renumber.specs.Parts.{Found, LookedAt, both}
use Rattle.zurkhovel.specs.document.Same.{list_rows, both_rows}
use Rattle.zurkhovel.specs.document.Maps.{HandOut, CheckRenumbering}
use Rattle.zurkhovel.specs.document.Reported.{OfBoth, coded}
use Rattle.zurkhovel.specs.Theorems.{sizes_apart}
use Rattle.zurkhovel.specs.Handing.{map_outcome, hands_none, hands_found}
use Rattle.zurkhovel.specs.Threes.{lists_of, third_of, three_clear, handed-codes, handed_length}
use Rattle.limits.specs.document.Limits.{size}
use Rattle.edition.specs.document.Edition.{row22}
use Rattle.zurkhovel.specs.document.InEdition.{edge_table}

-- there is no such edition, or a list is refused
module _ {e : ℕ} (N P : ℕ) (E F : List ℕ) {i k p : ℕ} (f : FirstRefusal (both_rows e N E P F) (i, k) p) where
  pub hand_lists : (old : List ℕ) → HandOut e N E P F old old (refuses (i, k) p)
  hand_lists old = left (lists_of N P E F (short (HandedOut N E P F) (length old) ∷ []) f) refl

  pub judge-lists : (w : List ℕ) → CheckRenumbering e N E P F w (refuses (i, k) p)
  judge-lists w = left (lists_of N P E F (map_rows N E P F w) f) refl

-- of two that are accepted
module _ {e : ℕ} (N P : ℕ) (E F : List ℕ) (k : Clear (edge_table e size N E 1)) (l : Clear (edge_table e size P F 1)) where
  -- lists of different sizes have no map
  pub hand_sizes : {old : List ℕ} → (N ≡ P → ⊥) → HandOut e N E P F old old (gives 0)
  hand_sizes n =
      hands_none (clear_left (row22 e ∷ []) (list_rows e N E) k) (others k) (others l) (λ w. handed_length N P E F w) (λ w. handed-codes k l) (sizes_apart k l n) refl

  -- a map as it is judged
  module _ (w : List ℕ) where
    pub map_passed : Clear (map_rows N E P F w) → CheckRenumbering e N E P F w (gives 0)
    map_passed c = kept {a = 0} ((three_clear N P E F (map_rows N E P F w)).1 (k, l, c)) refl

    pub map_refused : {i p : ℕ} → FirstRefusal (map_rows N E P F w) i p → CheckRenumbering e N E P F w (refuses (3, i) p)
    map_refused f = left (third_of N P E F (map_rows N E P F w) k l f) refl

-- lists of one size
same_size : {e : ℕ} (N : ℕ) (E F : List ℕ) → Clear (edge_table e size N E 1) → Clear (edge_table e size N F 1) → {old new : List ℕ} {o : Outcome ℕ} → Found N E F old new o → HandOut e N E N F old new (map_outcome o)
same_size {e} N E F k l x =
    hands_found (clear_left (row22 e ∷ []) (list_rows e N E) k) (others k) (others l) (λ w. handed_length N N E F w) (λ w. handed-codes k l) x

pub hand_found :
    {e : ℕ} (N P : ℕ) (E F : List ℕ) → Clear (edge_table e size N E 1) → Clear (edge_table e size P F 1) → N ≡ P → {old new : List ℕ} {o : Outcome ℕ} → Found N E F old new o
    → HandOut e N E P F old new (map_outcome o)
hand_found {e} N P E F k l q {old} {new} {o} x =
    subst (λ n. Clear (edge_table e size n F 1) → HandOut e N E n F old new (map_outcome o)) q (λ c. same_size N E F k c x) l

-- what was looked at for both
pub hand_looked : {N P n : ℕ} {E F : List ℕ} → N ≡ P → LookedAt N E F n → OfBoth N E P F n
hand_looked {F = F} e (both {m = m} x y) = coded e x (subst (λ p. CentredPairs p F m) e y)
