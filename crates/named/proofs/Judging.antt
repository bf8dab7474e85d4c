-- Two edge lists with letters: one is refused; of two accepted ones the verdict by their sizes, and by their centred codes, as these are written and compared; the map that is
-- handed out, with the pairs looked at, and the one that is judged. Assumes nothing.
use Rattle.std.specs.Bool.{Decides}
use mathlib.Core.Path.{◌≡◌, refl, sym, ◌∙◌, subst}
use mathlib.Core.Bool.{Bool, true, false}
use mathlib.Core.List.{List, [], ◌∷◌}
use Prim.Native.Nat.{ℕ}
use lib.ListN.{length, take}
use Rattle.refusal.specs.document.Table.{Row, Clear, FirstRefusal, Outcome, gives, refuses, kept, left, Writes, short}
use Rattle.refusal.specs.document.Lists.{lists_rows}
use Rattle.refusal.specs.Giving.{written}
use Rattle.refusal.specs.Lists.{lists_clear, maps_clear, maps-lists}
use Rattle.refusal.proofs.WhichList.{maps_third}
use Rattle.skeleton.specs.document.Atom.{atom_at}
use Rattle.skeleton.specs.document.AtomMarks.{atoms}
use Rattle.numbering.specs.document.Pairs.{rooted_pairsₗ}
use Rattle.numbering.specs.Numbers.{pairsₗ}
use Rattle.numbering.proofs.Pairs.{pairs_countedₗ}
use Rattle.form.specs.document.Labelled.{IsCentredₗ}
use Rattle.form_coder.specs.document.Pairs.{OverMiddles}
use Rattle.form_coder.specs.Sums.{middles-same}
use Rattle.renumber.specs.document.Kept.{kept_rows, HandedKept}
use Rattle.renumber.specs.Parts.{FoundKept, LookedKept, both}
use Rattle.zurkhovel.specs.document.Reported.{coded}
use Rattle.zurkhovel.specs.Handing.{map_outcome, judged-same, judged-other, hands_none, hands_found}
use Rattle.named.specs.document.Codes.{NamedMiddles}
use Rattle.named.specs.document.Same.{named_list_rows, NamedSameSkeleton, NamedHandOut, NamedCheckRenumbering, NamedOfBoth}
use Rattle.named.specs.Accepted.{tree_of}
use Rattle.named.specs.Two.{nothing_else, only_code, sizes_apart, kept-codes, kept_length}

module _ (N : ℕ) (E s : List ℕ) (P : ℕ) (F u : List ℕ) where
  abbrev A : List Row
  A = named_list_rows N E s

  abbrev B : List Row
  B = named_list_rows P F u

  abbrev Handed : List ℕ → Type 0
  Handed = HandedKept atoms (atom_at s) (atom_at u) N E P F

  -- a list is refused
  module _ {i k p : ℕ} (f : FirstRefusal (lists_rows [] A B) (i, k) p) where
    pub hand_lists : (old : List ℕ) → NamedHandOut N E s P F u old old (refuses (i, k) p)
    hand_lists old = left (maps-lists [] A B (short Handed (length old) ∷ []) f) refl

    pub judge-lists : (w : List ℕ) → NamedCheckRenumbering N E s P F u w (refuses (i, k) p)
    judge-lists w = left (maps-lists [] A B (kept_rows (atom_at s) (atom_at u) N E P F w) f) refl

  -- of two that are accepted
  module _ (k : Clear A) (l : Clear B) where
    accepted : Clear (lists_rows [] A B)
    accepted = (lists_clear [] A B).1 (nothing_else, k, l)

    -- lists of different sizes
    pub verdict-sizes : (N ≡ P → ⊥) → NamedSameSkeleton N E s P F u (gives false)
    verdict-sizes n = kept {a = false} accepted (sizes_apart N E s P F u k l n)

    pub hand_sizes : {old : List ℕ} → (N ≡ P → ⊥) → NamedHandOut N E s P F u old old (gives 0)
    hand_sizes n = hands_none nothing_else k l (kept_length N E s P F u) (kept-codes N E s P F u k l) (sizes_apart N E s P F u k l n) refl

    -- by their codes
    module _ {old a rest b : List ℕ} (v : Writes (IsCentredₗ atoms N E (atom_at s)) old N a) (w : Writes (IsCentredₗ atoms P F (atom_at u)) rest P b) where
      pub verdict-same : take N a ≡ take P b → NamedSameSkeleton N E s P F u (gives true)
      verdict-same q = judged-same accepted v.right w.right (sym (written v) ∙ q ∙ written w)

      pub verdict_different : (take N a ≡ take P b → ⊥) → NamedSameSkeleton N E s P F u (gives false)
      verdict_different n = judged-other accepted v.right w.right (only_code N E s k) (only_code P F u l) (λ q. n (written v ∙ q ∙ sym (written w)))

      pub verdict : (d : Bool) → Decides d (take N a ≡ take P b) → NamedSameSkeleton N E s P F u (gives d)
      verdict true d = verdict-same (d.0 refl)
      verdict false d = verdict_different (λ q. let z : ◌≡◌ {A = Bool} false true = d.1 q in absurd cc)

    -- a map as it is judged
    module _ (w : List ℕ) where
      pub map_passed : Clear (kept_rows (atom_at s) (atom_at u) N E P F w) → NamedCheckRenumbering N E s P F u w (gives 0)
      map_passed c = kept {a = 0} ((maps_clear [] A B (kept_rows (atom_at s) (atom_at u) N E P F w)).1 (nothing_else, k, l, c)) refl

      pub map_refused : {i p : ℕ} → FirstRefusal (kept_rows (atom_at s) (atom_at u) N E P F w) i p → NamedCheckRenumbering N E s P F u w (refuses (3, i) p)
      map_refused f = left (maps_third [] A B (kept_rows (atom_at s) (atom_at u) N E P F w) nothing_else k l f) refl

-- a map as it was found, of lists of one size
pub hand_found :
    (N : ℕ) (E s : List ℕ) (P : ℕ) (F u : List ℕ) → Clear (named_list_rows N E s) → Clear (named_list_rows P F u) → N ≡ P → {old new : List ℕ} {o : Outcome ℕ}
    → FoundKept (atom_at s) (atom_at u) N E F old new o → NamedHandOut N E s P F u old new (map_outcome o)
hand_found N E s P F u k l q {old} {new} {o} x = subst (λ n. Clear (named_list_rows n F u) → NamedHandOut N E s n F u old new (map_outcome o)) q same_size l
  where
    same_size : Clear (named_list_rows N F u) → NamedHandOut N E s N F u old new (map_outcome o)
    same_size m = hands_found nothing_else k m (kept_length N E s N F u) (kept-codes N E s N F u k m) x

-- what was looked at for both
pub hand_looked :
    (N : ℕ) (E s : List ℕ) (P : ℕ) (F u : List ℕ) → Clear (named_list_rows N E s) → Clear (named_list_rows P F u) → N ≡ P → {n : ℕ} → LookedKept (atom_at s) (atom_at u) N E F n
    → NamedOfBoth N E s P F u n
hand_looked N E s P F u k l q {n} x = subst (λ p. Clear (named_list_rows p F u) → NamedOfBoth N E s p F u n) q (λ m. same_size m x) l
  where
    counted : (G t : List ℕ) → Clear (named_list_rows N G t) → {n : ℕ} → OverMiddles N G (pairsₗ atoms (atom_at t) N G) n → NamedMiddles N G t n
    counted G t c y =
        middles-same (tree_of N G 1 t c) (pairsₗ atoms (atom_at t) N G) (rooted_pairsₗ atoms (atom_at t) N G) (λ v a b. pairs_countedₗ atoms (atom_at t) N G v (tree_of N G 1 t c) a b) y

    same_size : Clear (named_list_rows N F u) → {n : ℕ} → LookedKept (atom_at s) (atom_at u) N E F n → NamedOfBoth N E s N F u n
    same_size m (both y z) = coded refl (counted E s k y) (counted F u m z)
